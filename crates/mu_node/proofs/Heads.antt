-- Heads that are read are positions: they fit 16 bits.
use Rattle.std.proofs.Common.{◌≡◌, ℕ, ◌<◌, ◌==◌, ◌&&◌, Bool, true, false, cond, List, [], ◌∷◌, ap, arith, subst, length, None, Some}
use Rattle.std.specs.declared.option.Option.{Option}
use Rattle.mu_model.specs.declared.config.Config.{Config}
use Rattle.mu_model.specs.declared.event.Answer.{Answer}
use Rattle.mu_model.specs.declared.event.Event.{Event}
use Rattle.mu_model.specs.declared.event.Verb.{Verb}
use Rattle.mu_model.specs.Allowed.{Needs}
use Rattle.mu_model.specs.Answers.{answer_of}
use Rattle.mu_model.specs.Contents.{IsConfig}
use Rattle.mu_model.specs.Histories.{max_with, newer_or, newest, or_zero, part}
use Rattle.mu_model.specs.Knowledge.{applied, has_entry, known}
use Rattle.mu_model.specs.Legal.{IsLegalHistory}
use Rattle.mu_model.specs.Parts.{IsPossible}
use Rattle.mu_model.specs.Regions.{head_raised, region_head}
use Rattle.mu_model.specs.Room.{head_read, last_head}
use Rattle.mu_agree.proofs.Within.{known_few}
use Rattle.mu_knowledge.proofs.Fetched.{front_fits}
use Rattle.mu_model.proofs.Parts.{part_is_possible}
use Rattle.mu_model.proofs.Putting.{head_applied}
use Rattle.mu_lead.specs.Listing.{number_told}

few_applied : (c : Config) (r : ℕ) (mine : List Event) → IsConfig c → IsPossible c r mine → length (applied c r mine) < 65536
few_applied c r mine good possible = let few = known_few c r mine good possible in let fits = front_fits (λ v. has_entry c r v mine) (known c r mine) in omega (arith, few, fits)

raised_by : (c : Config) (q by old : ℕ) (mine : List Event) (verb : Verb) → Needs c by mine verb → length (applied c by mine) < 65536 → old < 65536 → max_with (head_raised q by verb) old < 65536
raised_by c q by old mine (Verb.RaiseHead h) needs few fits = go (by == q)
  where
    go : (t : Bool) → max_with (cond t (Some h) None) old < 65536
    go true = let low = head_applied c by mine h needs in omega (arith, low, few, fits)
    go false = fits
raised_by c q by old mine verb needs few fits = fits

-- a head fits
region_heads_fit : (c : Config) (q : ℕ) (past : List Event) → IsConfig c → IsLegalHistory c past → region_head q past < 65536
region_heads_fit c q [] good legal = omega arith
region_heads_fit c q (e ∷ past) good legal =
    raised_by c q e.by (region_head q past) (part e.by past) e.verb legal.1.allowed.may (few_applied c e.by (part e.by past) good (part_is_possible c e.by past legal.0)) (region_heads_fit c q past good legal.0)

read_by : (c : Config) (r q by : ℕ) (past : List Event) (old : Option ℕ) (verb : Verb) (answer : Answer) → answer ≡ answer_of c by past verb → ((p : ℕ) → region_head p past < 65536) → or_zero old < 65536
    → or_zero (newer_or (head_read r q by verb answer) old) < 65536
read_by c r q by past old (Verb.Head p) (Answer.Number x) is heads fits = go ((by == r) && (p == q))
  where
    same : x ≡ region_head p past
    same = ap number_told is

    go : (t : Bool) → or_zero (newer_or (cond t (Some x) None) old) < 65536
    go true = let low = heads p in omega (arith, low, same)
    go false = fits
read_by c r q by past old verb answer is heads fits = fits

whole_fits : (c : Config) (r q : ℕ) (past : List Event) → IsConfig c → IsLegalHistory c past → last_head r q (part r past) < 65536
whole_fits c r q [] good legal = omega arith
whole_fits c r q (e ∷ past) good legal = go (e.by == r) (whole_fits c r q past good legal.0)
  where
    go : (t : Bool) → last_head r q (part r past) < 65536 → last_head r q (cond t (e ∷ part r past) (part r past)) < 65536
    go true fits = read_by c r q e.by past (newest (λ f. head_read r q f.by f.verb f.answer) (part r past)) e.verb e.answer legal.1.answer (λ p. region_heads_fit c p past good legal.0) fits
    go false fits = fits

-- a head that was read fits
pub heads_fit : (c : Config) (r q : ℕ) (mine : List Event) → IsConfig c → IsPossible c r mine → last_head r q mine < 65536
heads_fit c r q mine good possible = subst (λ l. last_head r q l < 65536) possible.is (whole_fits c r q possible.past good possible.legal)
