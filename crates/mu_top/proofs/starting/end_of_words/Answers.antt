use Rattle.std.proofs.Common.{◌≡◌, ◌∙◌, ℕ, List, None, Option, Some, subst, sym}
use Rattle.mu_report.specs.Said.{text}
use Rattle.mu_report.specs.Statuses.{status_for}
use Rattle.mu_report.specs.declared.said.Said.{Said}
use Rattle.mu_serve.specs.Serving.{IsServed}
use Rattle.mu_shell.specs.Written.{Wrote}
use Rattle.mu_top.specs.Answers.{EndsAs, Tells}
use Rattle.mu_top.specs.declared.asking.Asked.{Asked}
use Rattle.mu_top.proofs.starting.end_of_words.Goals as goal

-- a session was asked for, and held
as_session : (session : Option ℕ) (asked : Option Asked) (replicas : ℕ)
    (left left_now : Option (List ℕ)) (read read_now : ℕ) (written written_now : Option (List ℕ))
    (wrote wrote_now status code : ℕ) → session ≡ Some replicas → code ≡ status
    → IsServed replicas left left_now read read_now written written_now wrote wrote_now status
    → EndsAs session asked left left_now read read_now written written_now wrote wrote_now code
as_session session asked replicas left left_now read read_now written written_now wrote wrote_now status code is ends served =
    subst (λ o. EndsAs o asked left left_now read read_now written written_now wrote wrote_now code) (sym is)
    (subst (λ n. IsServed replicas left left_now read read_now written written_now wrote wrote_now n) (sym ends) served)

-- none was
as_asked : (session : Option ℕ) (asked : Option Asked) (left left_now : Option (List ℕ))
    (read read_now : ℕ) (written written_now : Option (List ℕ)) (wrote wrote_now : ℕ) (said : Said)
    (status taken code : ℕ) → session ≡ None → code ≡ status
    → Tells asked left left_now read read_now said
    → Wrote written written_now wrote wrote_now (text said) (status_for said) status taken
    → EndsAs session asked left left_now read read_now written written_now wrote wrote_now code
as_asked session asked left left_now read read_now written written_now wrote wrote_now said status taken code is ends tells writes =
    subst (λ o. EndsAs o asked left left_now read read_now written written_now wrote wrote_now code) (sym is) (record {
      said = said;
      taken = taken;
      tells = tells;
      writes = subst (λ n. Wrote written written_now wrote wrote_now (text said) (status_for said) n taken) (sym ends) writes;
    })

pub returns-in-Some : goal.returns-in-Some
returns-in-Some g c = as_session _ _ _ _ _ _ _ _ _ _ _ _ _ (sym c.session_request.ensures.exact ∙ c.in-Some.is) c.from.ensures c.serve.ensures

pub returns-in-None : goal.returns-in-None
returns-in-None g c = as_asked _ _ _ _ _ _ _ _ _ _ _ _ _ _ (sym c.session_request.ensures.exact ∙ c.in-None.is) c.into_exit_code.ensures c.mu.ensures.said c.mu.ensures.wrote
