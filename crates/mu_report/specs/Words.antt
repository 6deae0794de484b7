-- spelled words, replies read back: how the names of commands, replies and ends are spelled, and that
-- who judges what clients saw reads each reply; operations are as in the input.
use Rattle.std.specs.Prelude.{◌≡◌, ℕ, List, [], ◌++◌, None, Some, codes, ⊤}
use Rattle.std.specs.declared.option.Option.{Option}
use Rattle.std.specs.Fmt.{decimal}
use Rattle.kv_store.specs.Commands.{Request}
use Rattle.kv_store.specs.Words.{IsText}
pub use Rattle.mu_input.specs.JobLines.{op_words}
use Rattle.kv_store.specs.declared.store.Reply.{Reply}
use Rattle.kv_store.specs.declared.store.Reply.TheVariants as reply
use Rattle.mu_clients.specs.Items.{reply_of}
use Rattle.mu_text.specs.Lines.{words}
use Rattle.mu_model.specs.declared.script.End.{End}
use Rattle.mu_model.specs.declared.script.End.TheVariants.{Stopped, Budget, Outrun, Finished}

-- the client and the number of a command
abbrev pub name_of : Request → List ℕ
name_of command = decimal command.client ++ codes "." ++ decimal command.number

-- a reply
abbrev pub reply_words : Reply → List ℕ
reply_words reply.Done = codes "done"
reply_words (reply.Value text) = codes "value " ++ text
reply_words reply.None = codes "none"
reply_words (reply.Kept text) = codes "kept " ++ text

-- its text, if it has one, is a text of the store
abbrev pub HasText : Reply → Type 0
HasText reply.Done = ⊤
HasText (reply.Value text) = IsText text
HasText reply.None = ⊤
HasText (reply.Kept text) = IsText text

-- what is printed of a reply is read as that reply
abbrev pub ReadsReplies : Type 0
ReadsReplies = (told : Reply) → HasText told → reply_of (words (reply_words told)) ≡ Some told

-- how a replica ended, and nothing if that is not told
abbrev pub end_words : Option End → List ℕ
end_words None = []
end_words (Some Stopped) = codes "stopped"
end_words (Some Budget) = codes "budget"
end_words (Some (Outrun region position)) =
    codes "outrun " ++ decimal region ++ codes " " ++ decimal position
end_words (Some (Finished heads)) = codes "finished"
