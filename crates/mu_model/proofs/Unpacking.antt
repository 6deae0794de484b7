-- An event is the one that its two words show.
use Rattle.std.proofs.Common.{◌≡◌, ℕ, List, ◌+◌, ◌-◌, ◌*◌, ◌/◌, ◌%◌, ◌<◌, ◌==◌, Bool, true, false, None, Some, ap, arith, refl, sym, ◌∙◌}
use Rattle.std.specs.declared.option.Option.{Option}
use Rattle.std.specs.Prelude.{unwrap_or, if◌then◌else◌}
use Rattle.std.proofs.lemmas.Bool.{le-ltb}
use Rattle.mu_model.specs.declared.config.Config.{Config}
use Rattle.mu_model.specs.declared.event.Answer.{Answer}
use Rattle.mu_model.specs.declared.event.Event.{Event}
use Rattle.mu_model.specs.declared.event.Fence.{Fence}
use Rattle.mu_model.specs.declared.event.Target.{Target}
use Rattle.mu_model.specs.declared.event.Verb.{Verb}
use Rattle.mu_model.specs.declared.packing.VerbFields.{VerbFields}
use Rattle.mu_model.specs.Answers.{answer_of, drained, put_answer}
use Rattle.mu_model.specs.Packing.{FitsJournal, IsBare, LeavesRoom, answer_in, answer_number, answer_word, fence_in, fence_word, fields_in, fields_of, first_word, own_word, owner_in, owner_word, packed_of, target_in, target_kind, target_place, unpacked_of, verb_in}
use Rattle.mu_model.specs.Ranges.{FitsAnswer, FitsEvent, FitsFence, FitsOwner, FitsTarget, FitsVerb}

pub target_back : (t : Target) → target_in (target_kind t) (target_place t) ≡ t
target_back Target.None = refl
target_back Target.Min = refl
target_back (Target.Place s) = refl

kind_small : (t : Target) → target_kind t < 4
kind_small Target.None = omega arith
kind_small Target.Min = omega arith
kind_small (Target.Place s) = omega arith

place_small : (t : Target) → FitsTarget t → target_place t < 65536
place_small Target.None h = omega arith
place_small Target.Min h = omega arith
place_small (Target.Place s) h = omega arith

owner_small : (o : Option ℕ) → FitsOwner o → owner_word o < 512
owner_small None h = omega arith
owner_small (Some w) h = omega arith

owner_back : (o : Option ℕ) → FitsOwner o → owner_in (owner_word o) ≡ o
owner_back None h = refl
owner_back (Some w) h = rw (le-ltb (w + 256) 256 (omega arith)) (ap Some (let e : w + 256 - 256 ≡ w = omega arith in e))

-- the fields of a fence
grant_back : (g k s c o : ℕ) → g < 4294967296 → (g + k * 4294967296 + s * 17179869184 + c * 1125899906842624 + o * 2251799813685248) % 4294967296 ≡ g
grant_back g k s c o h = omega arith

kind_back : (g k s c o : ℕ) → g < 4294967296 → k < 4 → (g + k * 4294967296 + s * 17179869184 + c * 1125899906842624 + o * 2251799813685248) / 4294967296 % 4 ≡ k
kind_back g k s c o h i = omega arith

place_back : (g k s c o : ℕ) → g < 4294967296 → k < 4 → s < 65536 → (g + k * 4294967296 + s * 17179869184 + c * 1125899906842624 + o * 2251799813685248) / 17179869184 % 65536 ≡ s
place_back g k s c o h i j = omega arith

closing_back : (g k s c o : ℕ) → g < 4294967296 → k < 4 → s < 65536 → c < 2 → (g + k * 4294967296 + s * 17179869184 + c * 1125899906842624 + o * 2251799813685248) / 1125899906842624 % 2 ≡ c
closing_back g k s c o h i j l = omega arith

holder_back : (g k s c o : ℕ) → g < 4294967296 → k < 4 → s < 65536 → c < 2 → o < 512 → (g + k * 4294967296 + s * 17179869184 + c * 1125899906842624 + o * 2251799813685248) / 2251799813685248 % 512 ≡ o
holder_back g k s c o h i j l m = omega arith

abbrev fence_with : ℕ → Target → Option ℕ → Bool → Fence
fence_with g t o b = record { grant = g; target = t; owner = o; closing = b }

-- a fence is the one that its word shows
fence_back : (f : Fence) → FitsFence f → fence_in (fence_word f) ≡ f
fence_back f fits = go f.closing refl
  where
    shown : (b : Bool) (c : ℕ) → (if b then 1125899906842624 else 0) ≡ c * 1125899906842624 → c < 2 → (c == 1) ≡ b → f.closing ≡ b → fence_in (fence_word f) ≡ f
    shown b c bit few tells same =
        let g = f.grant in
        let k = target_kind f.target in
        let s = target_place f.target in
        let o = owner_word f.owner in
        let low : g < 4294967296 = (let h = fits.grant in omega arith) in
        let kind = kind_small f.target in
        let place = place_small f.target fits.target in
        let owner = owner_small f.owner fits.owner in
        let is : fence_word f ≡ g + k * 4294967296 + s * 17179869184 + c * 1125899906842624 + o * 2251799813685248 = ap (λ x. g + k * 4294967296 + s * 17179869184 + x + o * 2251799813685248) (ap (λ d. if d then 1125899906842624 else 0) same ∙ bit) in
        ap fence_in is
        ∙ rw (grant_back g k s c o low, kind_back g k s c o low kind, place_back g k s c o low kind place, closing_back g k s c o low kind place few, holder_back g k s c o low kind place few owner)
        (ap (λ t. fence_with g t (owner_in o) (c == 1)) (target_back f.target) ∙ ap (λ x. fence_with g f.target x (c == 1)) (owner_back f.owner fits.owner) ∙ ap (fence_with g f.target f.owner) (tells ∙ sym same))

    go : (b : Bool) → f.closing ≡ b → fence_in (fence_word f) ≡ f
    go true same = shown true 1 refl (omega arith) refl same
    go false same = shown false 0 refl (omega arith) refl same

-- the fields of a first word
number_back : (n a b s i j : ℕ) → n < 32 → (n + a * 32 + b * 512 + s * 131072 + i * 33554432 + j * 2199023255552) % 32 ≡ n
number_back n a b s i j h = omega arith

answer_back : (n a b s i j : ℕ) → n < 32 → a < 16 → (n + a * 32 + b * 512 + s * 131072 + i * 33554432 + j * 2199023255552) / 32 % 16 ≡ a
answer_back n a b s i j h k = omega arith

by_back : (n a b s i j : ℕ) → n < 32 → a < 16 → b < 256 → (n + a * 32 + b * 512 + s * 131072 + i * 33554432 + j * 2199023255552) / 512 % 256 ≡ b
by_back n a b s i j h k l = omega arith

small_back : (n a b s i j : ℕ) → n < 32 → a < 16 → b < 256 → s < 256 → (n + a * 32 + b * 512 + s * 131072 + i * 33554432 + j * 2199023255552) / 131072 % 256 ≡ s
small_back n a b s i j h k l m = omega arith

first_back : (n a b s i j : ℕ) → n < 32 → a < 16 → b < 256 → s < 256 → i < 65536 → (n + a * 32 + b * 512 + s * 131072 + i * 33554432 + j * 2199023255552) / 33554432 % 65536 ≡ i
first_back n a b s i j h k l m o = omega arith

second_back : (n a b s i j : ℕ) → n < 32 → a < 16 → b < 256 → s < 256 → i < 65536 → j < 65536 → (n + a * 32 + b * 512 + s * 131072 + i * 33554432 + j * 2199023255552) / 2199023255552 % 65536 ≡ j
second_back n a b s i j h k l m o p = omega arith

-- fields that a first word has room for
pub record AreFields (f : VerbFields) : Type 0 where
  pub number : f.number < 32
  pub small : f.small < 256
  pub first : f.first < 65536
  pub second : f.second < 65536

verb_small : (v : Verb) → (fields_of v).number < 32
verb_small (Verb.Ask p) = omega arith
verb_small v = omega arith

pub of_verb : (v : Verb) → FitsVerb v → AreFields (fields_of v)
of_verb v h = record { number = verb_small v; small = h.small; first = h.first; second = h.second }

-- fields are those that their word shows
fields_back : (f : VerbFields) (a b : ℕ) → AreFields f → a < 16 → b < 256 → fields_in (first_word f a b) ≡ f
fields_back f a b are h k =
    rw (
      number_back f.number a b f.small f.first f.second are.number,
      small_back f.number a b f.small f.first f.second are.number h k are.small,
      first_back f.number a b f.small f.first f.second are.number h k are.small are.first,
      second_back f.number a b f.small f.first f.second are.number h k are.small are.first are.second,
    ) refl

-- a verb is that of its fields and the second word, if it is the verb's own
pub verb_back : (v : Verb) (word : ℕ) → FitsVerb v → verb_in (fields_of v) (unwrap_or (own_word v) word) ≡ v
verb_back (Verb.Enter p t) word h = ap (Verb.Enter p) (target_back t)
verb_back (Verb.PutMin p b) word h = let few = h.own in ap (Verb.PutMin p) (let e : b % 4294967296 ≡ b = omega (arith, few) in e)
verb_back (Verb.PutSlot p i b v) word h = let few = h.own in ap (λ n. Verb.PutSlot p i n v) (let e : b % 4294967296 ≡ b = omega (arith, few) in e)
verb_back v word h = refl

number_small : (a : Answer) → answer_number a < 16
number_small Answer.Done = omega arith
number_small a = omega arith

-- an answer is that of its number and its word, and of its number alone if it carries nothing
carried_back : (a : Answer) → FitsAnswer a → answer_in (answer_number a) (answer_word a) ≡ a
carried_back (Answer.Lost f) h = ap Answer.Lost (fence_back f h)
carried_back (Answer.Seen f) h = ap Answer.Seen (fence_back f h)
carried_back (Answer.Entry b v) h =
    ap (λ n. Answer.Entry n ((b + v * 4294967296) / 4294967296 % 65536)) (let e : (b + v * 4294967296) % 4294967296 ≡ b = omega arith in e)
    ∙ ap (Answer.Entry b) (let e : (b + v * 4294967296) / 4294967296 % 65536 ≡ v = omega arith in e)
carried_back a h = refl

bare_back : (a : Answer) (word : ℕ) → IsBare a → answer_in (answer_number a) word ≡ a
bare_back (Answer.Lost f) word h = absurd h
bare_back (Answer.Seen f) word h = absurd h
bare_back (Answer.Number n) word h = absurd h
bare_back (Answer.Entry b v) word h = absurd h
bare_back a word h = refl

kept_back : (own : Option ℕ) (a : Answer) → LeavesRoom own a → FitsAnswer a → answer_in (answer_number a) (unwrap_or own (answer_word a)) ≡ a
kept_back None a room fits = carried_back a fits
kept_back (Some word) a room fits = bare_back a word room

abbrev event_with : ℕ → Verb → Answer → Event
event_with by verb answer = record { by = by; verb = verb; answer = answer }

-- an event is the one that its two words show
pub unpacked_packed : (e : Event) → FitsEvent e → FitsJournal e → unpacked_of (packed_of e) ≡ e
unpacked_packed e fits room =
    let f = fields_of e.verb in
    let a = answer_number e.answer in
    let word = unwrap_or (own_word e.verb) (answer_word e.answer) in
    let are = of_verb e.verb fits.verb in
    let few = number_small e.answer in
    let byte : e.by < 256 = (let h = fits.by in omega arith) in
    ap (λ by. event_with by (verb_in (fields_in (first_word f a e.by)) word) (answer_in (first_word f a e.by / 32 % 16) word)) (by_back f.number a e.by f.small f.first f.second are.number few byte)
    ∙ ap (λ g. event_with e.by (verb_in g word) (answer_in (first_word f a e.by / 32 % 16) word)) (fields_back f a e.by are few byte)
    ∙ ap (λ n. event_with e.by (verb_in f word) (answer_in n word)) (answer_back f.number a e.by f.small f.first f.second are.number few)
    ∙ ap (λ v. event_with e.by v (answer_in a word)) (verb_back e.verb (answer_word e.answer) fits.verb)
    ∙ ap (event_with e.by e.verb) (kept_back (own_word e.verb) e.answer room fits.answer)

put_bare : (missed : Bool) → IsBare (put_answer missed)
put_bare true = tt
put_bare false = tt

-- what a step answers fits a journal
pub answered_fits : (c : Config) (r : ℕ) (past : List Event) (v : Verb) → FitsJournal (record { by = r; verb = v; answer = answer_of c r past v })
answered_fits c r past (Verb.PutMin p b) = put_bare (drained r p past)
answered_fits c r past (Verb.PutSlot p i b v) = put_bare (drained r p past)
answered_fits c r past (Verb.WriteRow j k x) = tt
answered_fits c r past _ = tt
