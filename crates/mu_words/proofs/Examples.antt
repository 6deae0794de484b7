-- What the definitions of stamps and of words say of short lists, newest first: examples, on which nothing rests.
use Rattle.std.proofs.Common.{◌≡◌, ◌+◌, ◌*◌, false, List, [], ◌∷◌, refl, Some}
use Rattle.mu_model.specs.declared.config.Config.{Config}
use Rattle.mu_model.specs.declared.event.Answer.{Answer}
use Rattle.mu_model.specs.declared.event.Event.{Event}
use Rattle.mu_model.specs.declared.event.Target.{Target}
use Rattle.mu_model.specs.declared.event.Verb.{Verb}
use Rattle.mu_words.specs.declared.layout.Name.{Name}
use Rattle.mu_words.specs.Standing.{stamp, standing_word, place_fields}

-- the host of region 1 closes while replica 0 has entered for the minimum, looks, and drains; replica 0 puts
abbrev closes : List Event → List Event
closes past = record { by = 1; verb = Verb.Close; answer = Answer.Seen (record { owner = Some 0; grant = 1; closing = false; target = Target.Min }) } ∷ past

abbrev looks : List Event → List Event
looks past = record { by = 1; verb = Verb.LookTarget; answer = Answer.Done } ∷ past

abbrev drains : List Event → List Event
drains past = record { by = 1; verb = Verb.Drain; answer = Answer.Done } ∷ past

abbrev puts : List Event → List Event
puts past = record { by = 0; verb = Verb.PutMin 1 8; answer = Answer.Done } ∷ past

-- the exchange takes
drained_once : (c : Config) → stamp c 1 Target.Min (drains (looks (closes []))) ≡ 1
drained_once c = refl

-- a put that came before the look doesn't matter, one that came after it does
put_before : (c : Config) → stamp c 1 Target.Min (drains (looks (puts (closes [])))) ≡ 1
put_before c = refl

put_after : (c : Config) → stamp c 1 Target.Min (drains (puts (looks (closes [])))) ≡ 0
put_after c = refl

-- a put of what stands there changes nothing
put_again : (c : Config) → stamp c 1 Target.Min (drains (puts (looks (closes (puts []))))) ≡ 1
put_again c = refl

-- another word keeps its stamp
other_word : (c : Config) → stamp c 1 (Target.Place 0) (drains (looks (closes []))) ≡ 0
other_word c = refl

-- the word after that has the stamp 1
word_drained : (c : Config) → standing_word c (drains (looks (closes (puts [])))) (Name.Min 1) ≡ 140737488355336
word_drained c = refl

-- with four places the place 1 of a log of six entries shows position 5
shows_last : place_fields 4 1 ((8, 10) ∷ (8, 11) ∷ (8, 12) ∷ (8, 13) ∷ (8, 14) ∷ (9, 15) ∷ []) ≡ 274877906944 + 9 * 32768 + 15
shows_last = refl

-- and the place 3, with no later one, position 3
shows_first : place_fields 4 3 ((8, 10) ∷ (8, 11) ∷ (8, 12) ∷ (8, 13) ∷ (8, 14) ∷ (9, 15) ∷ []) ≡ 8 * 32768 + 13
shows_first = refl
