-- An event changes only the region that it reads, unless it is the first ask of a leadership; a read
-- changes none, and a beat only the count of beats.
use Rattle.std.proofs.Common.{◌≡◌, ℕ, ◌/◌, ◌==◌, Bool, true, false, List, ◌∷◌, Some, refl, sym, ap, ◌∙◌, subst}
use Rattle.std.proofs.lemmas.Bool.{true≢false}
use Rattle.mu_model.specs.declared.config.Config.{Config}
use Rattle.mu_model.specs.declared.event.Answer.{Answer}
use Rattle.mu_model.specs.declared.event.Event.{Event}
use Rattle.mu_model.specs.declared.event.Verb.{Verb}
use Rattle.mu_model.specs.Answers.{drained}
use Rattle.mu_model.specs.Leaderships.{noted_grant}
use Rattle.mu_model.specs.Regions.{asks, beats, fence, region_fuo, region_head, region_log, region_min, row_word}
use Rattle.mu_model.specs.Steps.{is_beat_verb}
use Rattle.mu_model.specs.Histories.{event_by}
use Rattle.mu_regions.specs.Range.{is_first, is_read_alone, read_at}
use Rattle.mu_regions.specs.Stands.{Holds}
use Rattle.mu_regions.specs.declared.region.Region.{Region}

fence_elsewhere : (p by : ℕ) (verb : Verb) (answer : Answer) (past : List Event) → (read_at by verb == p) ≡ false → fence p (event_by by verb answer ∷ past) ≡ fence p past
fence_elsewhere p by (Verb.Grant w) answer past other = rw other refl
fence_elsewhere p by Verb.Close answer past other = rw other refl
fence_elsewhere p by (Verb.Enter q t) Answer.Entered past other = rw other refl
fence_elsewhere p by verb answer past other = refl

minimum_elsewhere : (p by : ℕ) (verb : Verb) (answer : Answer) (past : List Event) → (read_at by verb == p) ≡ false → region_min p (event_by by verb answer ∷ past) ≡ region_min p past
minimum_elsewhere p by (Verb.PutMin q b) Answer.Done past other = rw other refl
minimum_elsewhere p by verb answer past other = refl

log_elsewhere : (p by : ℕ) (verb : Verb) (answer : Answer) (past : List Event) → (read_at by verb == p) ≡ false → region_log p (event_by by verb answer ∷ past) ≡ region_log p past
log_elsewhere p by (Verb.PutSlot q i b v) Answer.Done past other = rw other refl
log_elsewhere p by verb answer past other = refl

fuo_elsewhere : (p by : ℕ) (verb : Verb) (answer : Answer) (past : List Event) → (read_at by verb == p) ≡ false → region_fuo p (event_by by verb answer ∷ past) ≡ region_fuo p past
fuo_elsewhere p by (Verb.RaiseFuo q u) answer past other = rw other refl
fuo_elsewhere p by verb answer past other = refl

head_elsewhere : (p by : ℕ) (verb : Verb) (answer : Answer) (past : List Event) → (read_at by verb == p) ≡ false → region_head p (event_by by verb answer ∷ past) ≡ region_head p past
head_elsewhere p by (Verb.RaiseHead h) answer past other = rw other refl
head_elsewhere p by verb answer past other = refl

beats_elsewhere : (p by : ℕ) (verb : Verb) (answer : Answer) (past : List Event) → (read_at by verb == p) ≡ false → beats p (event_by by verb answer ∷ past) ≡ beats p past
beats_elsewhere p by Verb.Beat answer past other = rw other refl
beats_elsewhere p by verb answer past other = refl

asks_elsewhere : (w p by : ℕ) (verb : Verb) (answer : Answer) (past : List Event) → (read_at by verb == p) ≡ false → asks w p (event_by by verb answer ∷ past) ≡ asks w p past
asks_elsewhere w p by (Verb.Ask q) answer past other = go (by == w) refl
  where
    go : (t : Bool) → (by == w) ≡ t → asks w p (event_by by (Verb.Ask q) answer ∷ past) ≡ asks w p past
    go true own = rw (own, other) refl
    go false own = rw own refl
asks_elsewhere w p by verb answer past other = refl

noted_elsewhere : (r p by : ℕ) (verb : Verb) (answer : Answer) (past : List Event) → is_first verb ≡ false → (read_at by verb == p) ≡ false → noted_grant r p (event_by by verb answer ∷ past) ≡ noted_grant r p past
noted_elsewhere r p by (Verb.Ask q) answer past later other = go (by == r) refl
  where
    go : (t : Bool) → (by == r) ≡ t → noted_grant r p (event_by by (Verb.Ask q) answer ∷ past) ≡ noted_grant r p past
    go true own = rw (own, later) refl
    go false own = rw own refl
noted_elsewhere r p by (Verb.Fence q) (Answer.Seen f) past later other = go (by == r) refl
  where
    go : (t : Bool) → (by == r) ≡ t → noted_grant r p (event_by by (Verb.Fence q) (Answer.Seen f) ∷ past) ≡ noted_grant r p past
    go true own = rw (own, other) refl
    go false own = rw own refl
noted_elsewhere r p by verb answer past later other = refl

drained_elsewhere : (r p by : ℕ) (verb : Verb) (answer : Answer) (past : List Event) → (read_at by verb == p) ≡ false → drained r p (event_by by verb answer ∷ past) ≡ drained r p past
drained_elsewhere r p by (Verb.Enter q t) answer past other = go (by == r) refl
  where
    go : (t' : Bool) → (by == r) ≡ t' → drained r p (event_by by (Verb.Enter q t) answer ∷ past) ≡ drained r p past
    go true own = rw (own, other) refl
    go false own = rw own refl
drained_elsewhere r p by Verb.Drain answer past other = rw other refl
drained_elsewhere r p by verb answer past other = refl

word_elsewhere : (v k p by : ℕ) (verb : Verb) (answer : Answer) (past : List Event) → v / 4096 ≡ p → (read_at by verb == p) ≡ false → row_word v k (event_by by verb answer ∷ past) ≡ row_word v k past
word_elsewhere v k p by (Verb.WriteRow j word x) answer past here other = let off : (by == v / 4096) ≡ false = subst (λ q. (by == q) ≡ false) (sym here) other in rw off refl
word_elsewhere v k p by verb answer past here other = refl

kept_by : (c : Config) (p by : ℕ) (verb : Verb) (answer : Answer) (past : List Event) (region : Region) → is_first verb ≡ false → (read_at by verb == p) ≡ false → Holds c p past region → Holds c p (event_by by verb answer ∷ past) region
kept_by c p by verb answer past region later other h = record {
  id = h.id;
  fence = h.fence ∙ sym (fence_elsewhere p by verb answer past other);
  minimum = h.minimum ∙ sym (minimum_elsewhere p by verb answer past other);
  log = h.log ∙ sym (log_elsewhere p by verb answer past other);
  log_room = h.log_room;
  fuo = h.fuo ∙ sym (fuo_elsewhere p by verb answer past other);
  head = h.head ∙ sym (head_elsewhere p by verb answer past other);
  beats = h.beats ∙ sym (beats_elsewhere p by verb answer past other);
  asks = λ w few. h.asks w few ∙ sym (asks_elsewhere w p by verb answer past other);
  noted = λ r few. h.noted r few ∙ ap Some (sym (noted_elsewhere r p by verb answer past later other));
  drained = λ r few. h.drained r few ∙ ap Some (sym (drained_elsewhere r p by verb answer past other));
  rows = λ v k here row word. h.rows v k here row word ∙ ap Some (sym (word_elsewhere v k p by verb answer past here other));
  words = h.words;
}

-- what is held of a region stays, if the event reads another one
pub region_kept : (c : Config) (p : ℕ) (past : List Event) (e : Event) (region : Region) → is_first e.verb ≡ false → (read_at e.by e.verb == p) ≡ false → Holds c p past region → Holds c p (e ∷ past) region
region_kept c p past e region later other held = kept_by c p e.by e.verb e.answer past region later other held

-- a read keeps what is held of each region
pub read_kept : (c : Config) (p by : ℕ) (verb : Verb) (answer : Answer) (past : List Event) (region : Region) → is_read_alone verb ≡ true → Holds c p past region → Holds c p (event_by by verb answer ∷ past) region
read_kept c p by (Verb.Ask q) answer past region read h = absurd (true≢false (sym read))
read_kept c p by (Verb.Fence q) answer past region read h = absurd (true≢false (sym read))
read_kept c p by (Verb.Enter q t) answer past region read h = absurd (true≢false (sym read))
read_kept c p by (Verb.PutMin q b) answer past region read h = absurd (true≢false (sym read))
read_kept c p by (Verb.PutSlot q i b v) answer past region read h = absurd (true≢false (sym read))
read_kept c p by (Verb.RaiseFuo q u) answer past region read h = absurd (true≢false (sym read))
read_kept c p by (Verb.RaiseHead u) answer past region read h = absurd (true≢false (sym read))
read_kept c p by (Verb.WriteRow j k x) answer past region read h = absurd (true≢false (sym read))
read_kept c p by Verb.Beat answer past region read h = absurd (true≢false (sym read))
read_kept c p by Verb.Close answer past region read h = absurd (true≢false (sym read))
read_kept c p by Verb.Drain answer past region read h = absurd (true≢false (sym read))
read_kept c p by (Verb.Grant w) answer past region read h = absurd (true≢false (sym read))
read_kept c p by verb answer past region read h = record {
  id = h.id;
  fence = h.fence;
  minimum = h.minimum;
  log = h.log;
  log_room = h.log_room;
  fuo = h.fuo;
  head = h.head;
  beats = h.beats;
  asks = h.asks;
  noted = h.noted;
  drained = h.drained;
  rows = h.rows;
  words = h.words;
}

-- what is held of a region after a beat, with the count of beats then
pub beat_taken : (c : Config) (p by count : ℕ) (verb : Verb) (answer : Answer) (past : List Event) (region : Region) → is_beat_verb verb ≡ true → count ≡ beats p (event_by by verb answer ∷ past) → Holds c p past region
    → Holds c p (event_by by verb answer ∷ past) (record { id = region.id; fence = region.fence; minimum = region.minimum; log = region.log; fuo = region.fuo; head = region.head; beats = count; asks = region.asks; noted = region.noted; drained = region.drained; words = region.words })
beat_taken c p by count Verb.Beat answer past region beat is h = record {
  id = h.id;
  fence = h.fence;
  minimum = h.minimum;
  log = h.log;
  log_room = h.log_room;
  fuo = h.fuo;
  head = h.head;
  beats = is;
  asks = h.asks;
  noted = h.noted;
  drained = h.drained;
  rows = h.rows;
  words = h.words;
}
beat_taken c p by count verb answer past region beat is h = absurd (true≢false (sym beat))
