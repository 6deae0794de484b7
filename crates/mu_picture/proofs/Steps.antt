-- What a step leaves of the marks of a picture, and how long its lists are.
use Rattle.std.proofs.Common.{◌≡◌, Bool, ℕ, zero, suc, ap, ◌∙◌, ◌∷◌, List, [], length, refl, arith}
use Rattle.std.specs.Prelude.{if◌then◌else◌, nat_le}
use Rattle.std.specs.declared.option.Option.{Option}
use Rattle.std.proofs.lemmas.List.{length-append}
use Rattle.mu_model.specs.declared.script.Script.{Script}
use Rattle.mu_picture.specs.Marks.{kept, mark_of, marks_of, with_mark}
use Rattle.mu_picture.specs.Openings.{opening_of, openings_of}
use Rattle.mu_picture.specs.declared.marks.Mark.{Mark}
use Rattle.mu_model.specs.declared.config.Config.{Config}
use Rattle.mu_model.specs.declared.event.Event.{Event}

-- the marks with that of the next event
pub marks_next : (c : Config) (script : Script) (brief : Bool) (first i : ℕ) (past : List Event) (e : Event) (items : List Mark) (mark : Option Mark)
    → mark ≡ kept brief (mark_of c script past e) → i ≡ length past → items ≡ marks_of c script brief first past
    → (if nat_le first i then with_mark items mark else items) ≡ marks_of c script brief first (e ∷ past)
marks_next c script brief first i past e items mark is place are =
    ap (λ m. if nat_le first i then with_mark m mark else m) are
    ∙ (ap (λ k. if nat_le first i then with_mark (marks_of c script brief first past) k else marks_of c script brief first past) is
    ∙ ap (λ n. if nat_le first n then with_mark (marks_of c script brief first past) (kept brief (mark_of c script past e)) else marks_of c script brief first past) place)

-- there is an opening for each lane
pub length_openings : (c : Config) (script : Script) (n : ℕ) (past : List Event) → length (openings_of c script n past) ≡ n
length_openings c script zero past = refl
length_openings c script (suc n) past =
    length-append (openings_of c script n past) (opening_of c script n past ∷ []) ∙ (omega (arith, length_openings c script n past))
