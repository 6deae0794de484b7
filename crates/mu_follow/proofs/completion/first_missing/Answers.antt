use Rattle.std.proofs.Common.{rules, ◌≡◌, ◌<◌, ◌∙◌, arith, false, get_or, inl, inr, length, sym, subst, true}
use Rattle.std.proofs.lemmas.Bool.{cases_lt}
use Rattle.std.proofs.lemmas.Option.{slice_get-get_or}
use Rattle.mu_model.proofs.Basics.{same_some}
use Rattle.mu_follow.proofs.completion.first_missing.Goals as goal

pub returns-then-not-held-at : goal.returns-then-not-held-at
returns-then-not-held-at c k is_there long marks within below =
    let n = c.loop-at.at in
    let held = c.args.held.now in
    let low : n < length held = c.loop-at-test.true in
    let no : get_or held n false ≡ false = search rules in
    let is : is_there n ≡ false = same_some _ _ (sym (marks n (omega (arith, low, long))) ∙ slice_get-get_or held n false low) ∙ no in
    record { within = omega (arith, low, long); below = λ j small. c.loop-at.invariant k is_there long marks below j small; missing = λ _. is }

pub loop-at-preserved : goal.loop-at-preserved
loop-at-preserved c k is_there long marks below j small =
    let n = c.loop-at.at in
    let held = c.args.held.now in
    let low : n < length held = c.loop-at-test.true in
    let yes : get_or held n false ≡ true = search rules in
    let is : is_there n ≡ true = same_some _ _ (sym (marks n (omega (arith, low, long))) ∙ slice_get-get_or held n false low) ∙ yes in
    elim (cases_lt j n) [
      | inl before ↦ c.loop-at.invariant k is_there long marks below j before
      | inr here ↦ let same : n ≡ j = omega (arith, small, here) in subst (λ i. is_there i ≡ true) same is
    ]

pub returns : goal.returns
returns c k is_there long marks within below =
    record {
      within = omega (arith, c.max.ensures, within, long);
      below = λ j small. elim (cases_lt j c.args.from) [
        | inl before ↦ below j before
        | inr after ↦ c.loop-at.invariant k is_there long marks below j (omega (arith, small, after, c.max.ensures, c.loop-at-test.false))
      ];
      missing = λ low. absurd (omega (arith, low, c.max.ensures, long));
    }
