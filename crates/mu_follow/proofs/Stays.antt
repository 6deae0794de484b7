-- What an event leaves as it was, by the kind of its verb.
use Rattle.std.proofs.Common.{◌≡◌, ◌∙◌, ◌||◌, ℕ, Bool, true, false, List, ◌∷◌, None, ap, arith, length, refl, subst, sym}
use Rattle.std.proofs.lemmas.Bool.{true≢false}
use Rattle.mu_model.specs.declared.config.Config.{Config}
use Rattle.mu_model.specs.declared.event.Answer.{Answer}
use Rattle.mu_model.specs.declared.event.Verb.{Verb}
use Rattle.mu_model.specs.declared.event.Event.{Event}
use Rattle.mu_model.specs.Ends.{outrun}
use Rattle.mu_model.specs.Knowledge.{applied, commits, fuo_read, is_filled}
use Rattle.mu_model.specs.Histories.{event_by}
use Rattle.mu_knowledge.specs.FilledLog.{StandsForFilledLog, filled_spot, is_at, is_below}
use Rattle.mu_knowledge.specs.declared.filled_log.FilledLog.{FilledLog}
use Rattle.mu_knowledge.proofs.Filled.{fills_by}
use Rattle.mu_knowledge.specs.HeldRows.{StandsForHeldRows, is_of_row}
use Rattle.mu_knowledge.specs.declared.held_rows.HeldRows.{HeldRows}
use Rattle.mu_knowledge.specs.KnownLog.{StandsForKnownLog, TellsAccepted}
use Rattle.mu_knowledge.specs.RowWords.{StandsForRowWords}
use Rattle.mu_knowledge.specs.declared.row_words.RowWords.{RowWords}
use Rattle.mu_knowledge.specs.declared.known_log.KnownLog.{KnownLog}
use Rattle.mu_follow.specs.declared.completion.Completion.{Completion}
use Rattle.mu_follow.specs.declared.follow.Follow.{Follow}
use Rattle.mu_follow.specs.declared.kind.Kind.{Kind}
use Rattle.mu_follow.specs.declared.progress.Progress.{Progress}
use Rattle.mu_follow.specs.declared.published.Published.{Published}
use Rattle.mu_follow.specs.Due.{HoldsProgress, own_fuo, row_under_way}
use Rattle.mu_follow.specs.Completion.{HoldsCompletion}
use Rattle.mu_follow.specs.Follow.{HoldsFollow}
use Rattle.mu_follow.specs.Kinds.{applies, is_fuo, is_head, is_look, is_put, is_row, kind_of, shows, teaches}
use Rattle.mu_follow.specs.Published.{HoldsPublished}

-- what is known, and what decides what may be learnt
pub knowing_stays : (c : Config) (r by : ℕ) (verb : Verb) (answer : Answer) (mine : List Event) (state : KnownLog) → shows (kind_of verb) ≡ false → StandsForKnownLog c r mine state → StandsForKnownLog c r (event_by by verb answer ∷ mine) state
knowing_stays c r by (Verb.Look p i) answer mine state other held = absurd (true≢false other)
knowing_stays c r by (Verb.PutSlot p i b v) answer mine state other held = absurd (true≢false other)
knowing_stays c r by (Verb.Fuo p) answer mine state other held = absurd (true≢false other)
knowing_stays c r by (Verb.RaiseFuo p u) answer mine state other held = absurd (true≢false other)
knowing_stays c r by verb answer mine state other held = record {
  values = held.values;
  fuos = held.fuos;
  positions = held.positions;
  seen = held.seen;
}

-- what is filled of the own log
pub log_stays : (c : Config) (r by : ℕ) (verb : Verb) (answer : Answer) (mine : List Event) (state : FilledLog) → shows (kind_of verb) ≡ false → StandsForFilledLog c r r mine state → StandsForFilledLog c r r (event_by by verb answer ∷ mine) state
log_stays c r by (Verb.Look p i) answer mine state other held = absurd (true≢false other)
log_stays c r by (Verb.PutSlot p i b v) answer mine state other held = absurd (true≢false other)
log_stays c r by (Verb.Fuo p) answer mine state other held = absurd (true≢false other)
log_stays c r by (Verb.RaiseFuo p u) answer mine state other held = absurd (true≢false other)
log_stays c r by verb answer mine state other held = record { room = held.room; filled = held.filled; next = held.next }

-- which rows are there, and what is applied
pub rows_stay : (c : Config) (r by : ℕ) (verb : Verb) (answer : Answer) (mine : List Event) (state : HeldRows) → applies (kind_of verb) ≡ false → StandsForHeldRows c r mine state → StandsForHeldRows c r (event_by by verb answer ∷ mine) state
rows_stay c r by (Verb.Look p i) answer mine state other held = absurd (true≢false other)
rows_stay c r by (Verb.PutSlot p i b v) answer mine state other held = absurd (true≢false other)
rows_stay c r by (Verb.WriteRow j k x) answer mine state other held = absurd (true≢false other)
rows_stay c r by (Verb.ReadRow v k) answer mine state other held = absurd (true≢false other)
rows_stay c r by verb answer mine state other held = record { written = held.written; got = held.got; applied = held.applied }

pub applied_stays : (c : Config) (r by : ℕ) (verb : Verb) (answer : Answer) (mine : List Event) → applies (kind_of verb) ≡ false → applied c r (event_by by verb answer ∷ mine) ≡ applied c r mine
applied_stays c r by (Verb.Look p i) answer mine other = absurd (true≢false other)
applied_stays c r by (Verb.PutSlot p i b v) answer mine other = absurd (true≢false other)
applied_stays c r by (Verb.WriteRow j k x) answer mine other = absurd (true≢false other)
applied_stays c r by (Verb.ReadRow v k) answer mine other = absurd (true≢false other)
applied_stays c r by verb answer mine other = refl

-- the heads
pub heads_stay : (r by : ℕ) (verb : Verb) (answer : Answer) (mine : List Event) (state : Published) → is_head (kind_of verb) ≡ false → HoldsPublished r mine state → HoldsPublished r (event_by by verb answer ∷ mine) state
heads_stay r by (Verb.Head q) answer mine state other held = absurd (true≢false other)
heads_stay r by (Verb.RaiseHead h) answer mine state other held = absurd (true≢false other)
heads_stay r by verb answer mine state other held = record { own = held.own; heard = held.heard }

-- what is committed
pub commits_stay : (c : Config) (r by : ℕ) (verb : Verb) (answer : Answer) (mine : List Event) → is_put (kind_of verb) ≡ false → commits c r (event_by by verb answer ∷ mine) ≡ commits c r mine
commits_stay c r by (Verb.PutSlot p i b v) answer mine other = absurd (true≢false other)
commits_stay c r by verb answer mine other = refl

-- if the replica was outrun
pub outrun_stays : (c : Config) (r by : ℕ) (verb : Verb) (answer : Answer) (mine : List Event) → is_look (kind_of verb) ≡ false → outrun c r mine ≡ outrun c r (event_by by verb answer ∷ mine)
outrun_stays c r by (Verb.Look p i) answer mine other = absurd (true≢false other)
outrun_stays c r by verb answer mine other = refl

-- the greatest own FUO, and the row that is being read
pub fuo_stays : (r by : ℕ) (verb : Verb) (answer : Answer) (mine : List Event) → is_fuo (kind_of verb) ≡ false → own_fuo r mine ≡ own_fuo r (event_by by verb answer ∷ mine)
fuo_stays r by (Verb.Fuo p) answer mine other = absurd (true≢false other)
fuo_stays r by (Verb.RaiseFuo p u) answer mine other = absurd (true≢false other)
fuo_stays r by verb answer mine other = refl

pub row_stays : (by : ℕ) (verb : Verb) (answer : Answer) (mine : List Event) → is_row (kind_of verb) ≡ false → row_under_way mine ≡ row_under_way (event_by by verb answer ∷ mine)
row_stays by (Verb.WriteRow j k x) answer mine other = absurd (true≢false other)
row_stays by (Verb.ReadRow v k) answer mine other = absurd (true≢false other)
row_stays by verb answer mine other = refl

-- the words of the rows
pub words_stay : (c : Config) (r by : ℕ) (verb : Verb) (answer : Answer) (mine : List Event) (state : RowWords) → is_row (kind_of verb) ≡ false → StandsForRowWords c r mine state → StandsForRowWords c r (event_by by verb answer ∷ mine) state
words_stay c r by (Verb.WriteRow j k x) answer mine state other held = absurd (true≢false other)
words_stay c r by (Verb.ReadRow v k) answer mine state other held = absurd (true≢false other)
words_stay c r by verb answer mine state other held = held

-- a verb of this kind is a put
pub only_put : (verb : Verb) → is_put (kind_of verb) ≡ true → kind_of verb ≡ Kind.Put
only_put (Verb.PutSlot p i b v) put = refl
only_put verb put = absurd (true≢false (sym put))

-- of all but puts there is nothing to tell
pub tells_none : (c : Config) (r n : ℕ) (verb : Verb) (now : List Event) (accepted : Bool) → is_put (kind_of verb) ≡ false → TellsAccepted c r now n verb accepted
tells_none c r n (Verb.PutSlot p i b v) now accepted other = absurd (true≢false other)
tells_none c r n verb now accepted other = tt

-- all but reads of a FUO read none
pub reads_none : (r p by : ℕ) (verb : Verb) (answer : Answer) → is_fuo (kind_of verb) ≡ false → None ≡ fuo_read r p by verb answer
reads_none r p by (Verb.Fuo q) answer other = absurd (true≢false other)
reads_none r p by verb answer other = refl

-- all but looks and puts show no position
pub spots_none : (c : Config) (r p by : ℕ) (verb : Verb) (answer : Answer) (mine now : List Event) → teaches (kind_of verb) ≡ false → None ≡ filled_spot c r p mine by verb answer now
spots_none c r p by (Verb.PutSlot q i b v) answer mine now other = absurd (true≢false other)
spots_none c r p by (Verb.Look q i) answer mine now other = absurd (true≢false other)
spots_none c r p by verb answer mine now other = refl

-- all but words of rows are of no row
pub rows_none : (verb : Verb) → is_row (kind_of verb) ≡ false → is_of_row verb ≡ false
rows_none (Verb.WriteRow j k x) other = absurd (true≢false other)
rows_none (Verb.ReadRow v k) other = absurd (true≢false other)
rows_none verb other = refl

-- an event that reads no FUO and shows no position leaves what is filled
pub log_unmoved : (c : Config) (r p : ℕ) (e : Event) (mine : List Event) (log : FilledLog) → None ≡ fuo_read r p e.by e.verb e.answer → None ≡ filled_spot c r p mine e.by e.verb e.answer (e ∷ mine) → StandsForFilledLog c r p mine log
    → StandsForFilledLog c r p (e ∷ mine) log
log_unmoved c r p e mine log reads shows held = record {
  room = held.room;
  filled = λ j.
      ap (λ x. x || is_filled c r p mine j)
      (fills_by c r p j e.by e.verb e.answer mine ∙ (ap (λ o. is_below o j || is_at (filled_spot c r p mine e.by e.verb e.answer (e ∷ mine)) j) (sym reads) ∙ ap (λ o. is_at o j) (sym shows)))
      ∙ held.filled j;
  next = held.next;
}

-- a verb of a kind that changes none of the others changes the heads at most
pub heads_noted : (c : Config) (r n : ℕ) (e : Event) (mine : List Event) (state : Follow) (heads : Published) (other : Kind) → kind_of e.verb ≡ other → applies other ≡ false → shows other ≡ false → is_row other ≡ false → is_put other ≡ false → is_look other ≡ false → is_fuo other ≡ false
    → HoldsFollow c r mine n state → HoldsPublished r (e ∷ mine) heads → HoldsFollow c r (e ∷ mine) n (record state { heads = heads })
heads_noted c r n e mine state heads other kind apply show row put look fuo held noted =
    let same = applied_stays c r e.by e.verb e.answer mine (ap applies kind ∙ apply) in
    record {
      config = held.config;
      replica = held.replica;
      inside = held.inside;
      steps = held.steps;
      knowing = knowing_stays c r e.by e.verb e.answer mine state.knowing (ap shows kind ∙ show) held.knowing;
      rows = rows_stay c r e.by e.verb e.answer mine state.rows (ap applies kind ∙ apply) held.rows;
      words = words_stay c r e.by e.verb e.answer mine state.words (ap is_row kind ∙ row) held.words;
      own_log = log_stays c r e.by e.verb e.answer mine state.own_log (ap shows kind ∙ show) held.own_log;
      heads = noted;
      completion = subst (λ l. HoldsCompletion c l state.completion) (sym same) held.completion;
      commits = record { are = held.commits.are ∙ sym (commits_stay c r e.by e.verb e.answer mine (ap is_put kind ∙ put)); room = held.commits.room };
      outrun = held.outrun ∙ outrun_stays c r e.by e.verb e.answer mine (ap is_look kind ∙ look);
      progress = record {
        fuo = held.progress.fuo ∙ fuo_stays r e.by e.verb e.answer mine (ap is_fuo kind ∙ fuo);
        row = held.progress.row ∙ row_stays e.by e.verb e.answer mine (ap is_row kind ∙ row);
        handed = (let long = ap length same in omega (arith, held.progress.handed, long));
      };
    }

-- a verb of no kind changes nothing
pub other_keeps : (c : Config) (r n : ℕ) (e : Event) (mine : List Event) (state : Follow) → kind_of e.verb ≡ Kind.Other → HoldsFollow c r mine n state → HoldsFollow c r (e ∷ mine) n state
other_keeps c r n e mine state kind held = heads_noted c r n e mine state state.heads Kind.Other kind refl refl refl refl refl refl held (heads_stay r e.by e.verb e.answer mine state.heads (ap is_head kind) held.heads)

-- a word of a row leaves all but the rows, the words, what is counted and what is being read
pub word_noted : (c : Config) (r n : ℕ) (e : Event) (mine : List Event) (state : Follow) (rows : HeldRows) (words : RowWords) (completion : Completion) (progress : Progress) → kind_of e.verb ≡ Kind.Row → HoldsFollow c r mine n state
    → StandsForHeldRows c r (e ∷ mine) rows → StandsForRowWords c r (e ∷ mine) words → HoldsCompletion c (applied c r (e ∷ mine)) completion → HoldsProgress c r (e ∷ mine) progress
    → HoldsFollow c r (e ∷ mine) n (record state { rows = rows; words = words; completion = completion; progress = progress })
word_noted c r n e mine state rows words completion progress kind held there told counted reached = record {
  config = held.config;
  replica = held.replica;
  inside = held.inside;
  steps = held.steps;
  knowing = knowing_stays c r e.by e.verb e.answer mine state.knowing (ap shows kind) held.knowing;
  rows = there;
  words = told;
  own_log = log_stays c r e.by e.verb e.answer mine state.own_log (ap shows kind) held.own_log;
  heads = heads_stay r e.by e.verb e.answer mine state.heads (ap is_head kind) held.heads;
  completion = counted;
  commits = record { are = held.commits.are ∙ sym (commits_stay c r e.by e.verb e.answer mine (ap is_put kind)); room = held.commits.room };
  outrun = held.outrun ∙ outrun_stays c r e.by e.verb e.answer mine (ap is_look kind);
  progress = reached;
}
