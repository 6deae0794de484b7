-- A step that a replica may make is on one of the words, in range, and prepared for.
use Rattle.std.proofs.Common.{◌≡◌, ℕ, List, sym, subst, ◌∙◌}
use Rattle.mu_model.specs.declared.config.Config.{Config}
use Rattle.mu_model.specs.declared.event.Event.{Event}
use Rattle.mu_model.specs.declared.event.Verb.{Verb}
use Rattle.mu_model.specs.Allowed.{Allowed}
use Rattle.mu_model.specs.Histories.{part}
use Rattle.mu_words.specs.declared.verbs.Move.{Move}
use Rattle.mu_words.specs.Finding.{expected, name_of}
use Rattle.mu_words.specs.Founds.{IsPrepared}
use Rattle.mu_words.specs.Places.{IsName}
use Rattle.mu_words.specs.Standing.{close_grant}
use Rattle.mu_words.specs.Verbs.{IsMove, VerbFits, name_at}
use Rattle.mu_words.proofs.Fitting.{verb_fits}
use Rattle.mu_words.proofs.Law.{place_named}
use Rattle.mu_words.proofs.Limits.{config_is_limited}
use Rattle.mu_words.proofs.Prepared.{allowed_are_prepared_law}
use Rattle.lone_words.specs.declared.accesses.Accesses.{Accesses}
use Rattle.lone_words.specs.Accesses.{MayAccess}
use Rattle.lone_words.specs.Memory.{Own}
use Rattle.lone_words.specs.Spots.{layout_of}
use Rattle.lone_words.proofs.OneList.{is_layout}

-- the step is allowed by the part of some legal list
allowed_there : (c : Config) (own : Own) (a : Accesses) (v : Verb) → (may : MayAccess c own a v) → Allowed c a.id (part a.id may.possible.past) v
allowed_there c own a v may = subst (λ (l : List Event). Allowed c a.id l v) (sym may.possible.is) may.allowed

pub verb_in_range : (c : Config) (own : Own) (a : Accesses) (v : Verb) → MayAccess c own a v → VerbFits a.layout.ring v
verb_in_range c own a v may =
    subst (λ (ring : ℕ). VerbFits ring v) (sym may.stands.layout.ring)
    (verb_fits c may.possible.past a.id v (config_is_limited c may.config) may.possible.legal (allowed_there c own a v may))

pub name_is : (c : Config) (own : Own) (a : Accesses) (v : Verb) → MayAccess c own a v → name_at a.layout.ring a.id a.found.close_target v ≡ name_of c a.id own.0 v
name_is c own a v may = λ i. name_at (may.stands.layout.ring i) a.id (may.stands.found.close_target i) v

pub is_named : (c : Config) (own : Own) (a : Accesses) (v : Verb) → MayAccess c own a v → IsName (layout_of a.shape) (name_of c a.id own.0 v)
is_named c own a v may =
    subst (λ (l : List Event). IsName (layout_of a.shape) (name_of c a.id l v)) may.possible.is
    (place_named c (layout_of a.shape) may.possible.past a.id v (config_is_limited c may.config) (is_layout c a.shape may.stands.shape) may.possible.legal (allowed_there c own a v may))

pub is_prepared : (c : Config) (own : Own) (a : Accesses) (v : Verb) → MayAccess c own a v → IsPrepared c own.0 v
is_prepared c own a v may = subst (λ (l : List Event). IsPrepared c l v) may.possible.is (allowed_are_prepared_law c a.id may.possible.past v (allowed_there c own a v may))

-- the move that is made by what is kept is that of the step
pub move_is : (c : Config) (own : Own) (a : Accesses) (v : Verb) (grant x : ℕ) (m : Move) → MayAccess c own a v → grant ≡ a.found.close_grant → x ≡ expected c a.id own.0 own.1 v → IsMove a.layout.ring grant v x m
    → IsMove c.ring (close_grant a.id own.0) v (expected c a.id own.0 own.1 v) m
move_is c own a v grant x m may told same is = subst (λ (k : ℕ × ℕ × ℕ). IsMove k.0 k.1 v k.2 m) (λ i. (may.stands.layout.ring i, (told ∙ may.stands.found.close_grant) i, same i)) is
