-- answering: the table, the replies and the room of a replica's own store.
use Rattle.std.specs.Prelude.{List, [], refl, suc, zero, ℕ, ◌≡◌}
use Rattle.std.specs.Coded.{Coded, code_by, coded×, coded_list, coded_ℕ}
use Rattle.std.specs.FinMap as map
use Rattle.kv_store.specs.Tables.{Table}
use Rattle.kv_store.specs.declared.store.Reply.{Reply}
use Rattle.kv_store.specs.declared.store.Reply.TheVariants as reply

-- the table, the replies so far, and how many more commands are sure to be answered
pub record Answering : Type 0 where
  pub table : Table
  pub replies : List Reply
  pub left : ℕ

-- a reply as a number and a text, and back
abbrev pub reply_parts : Reply → ℕ × List ℕ
reply_parts reply.Done = (0, [])
reply_parts (reply.Value text) = (1, text)
reply_parts reply.None = (2, [])
reply_parts (reply.Kept text) = (3, text)

abbrev pub reply_from : ℕ → List ℕ → Reply
reply_from zero text = reply.Done
reply_from (suc zero) text = reply.Value text
reply_from (suc (suc zero)) text = reply.None
reply_from (suc (suc (suc n))) text = reply.Kept text

abbrev pub parts_back : (r : Reply) → reply_from (reply_parts r).0 (reply_parts r).1 ≡ r
parts_back reply.Done = refl
parts_back (reply.Value text) = refl
parts_back reply.None = refl
parts_back (reply.Kept text) = refl

abbrev pub reply_code : Coded Reply
reply_code =
    code_by (ℕ × List ℕ) (coded× coded_ℕ (coded_list coded_ℕ)) reply_parts
    (λ p. reply_from p.0 p.1) parts_back

-- the whole as the tuple of its parts
abbrev pub answering_code : Coded Answering
answering_code =
    code_by (Table × (List Reply × ℕ))
    (coded× (map.code (coded_list coded_ℕ) (coded_list coded_ℕ))
    (coded× (coded_list reply_code) coded_ℕ))
    (λ a. (a.table, (a.replies, a.left)))
    (λ p. record { table = p.0; replies = p.1.0; left = p.1.1 }) (λ _. refl)
