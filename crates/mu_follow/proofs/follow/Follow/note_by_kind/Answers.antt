use Rattle.std.proofs.Common.{List, Some, ap, false, length, refl, sym, ℕ, ◌∙◌, ◌∷◌, ◌≡◌}
use Rattle.std.proofs.lemmas.Bool.{true≢false}
use Rattle.mu_model.specs.declared.config.Config.{Config}
use Rattle.mu_model.specs.declared.event.Event.{Event}
use Rattle.mu_model.specs.Knowledge.{known}
use Rattle.mu_follow.specs.declared.kind.Kind.{Kind}
use Rattle.mu_follow.specs.Follow.{commit_of}
use Rattle.mu_follow.specs.Kinds.{is_put, kind_of}
use Rattle.mu_follow.proofs.Putting.{commits_by_put}
use Rattle.mu_follow.proofs.Stays.{other_keeps}
use Rattle.mu_follow.proofs.follow.Follow.note_by_kind.Goals as goal

-- only a put commits
no_put : (k : Config) (e : Event) (mine : List Event) (kind : Kind) (entry : ℕ × ℕ) → is_put kind ≡ false → kind_of e.verb ≡ kind → commit_of k e.by mine e ≡ Some entry → ⊥
no_put k e mine kind entry other is some = true≢false (sym (commits_by_put k e.by e.by (length (known k e.by mine)) e.verb e.answer (e ∷ mine) entry some) ∙ (ap is_put is ∙ other))

pub returns-in-Look-clause-stands : goal.returns-in-Look-clause-stands
returns-in-Look-clause-stands c mine n possible held none = c.note_look.ensures.stands mine n (sym c.kind_of.ensures ∙ c.in-Look.is) possible held

pub returns-in-Fuo-clause-stands : goal.returns-in-Fuo-clause-stands
returns-in-Fuo-clause-stands c mine n possible held none = c.note_fuo.ensures.stands mine n (sym c.kind_of.ensures ∙ c.in-Fuo.is) possible held

pub returns-in-Row-clause-stands : goal.returns-in-Row-clause-stands
returns-in-Row-clause-stands c mine n possible held none = c.note_row.ensures.stands mine n (sym c.kind_of.ensures ∙ c.in-Row.is) possible held

pub returns-in-Put-clause-stands : goal.returns-in-Put-clause-stands
returns-in-Put-clause-stands c mine n possible held none = c.note_put.ensures.stands (sym c.kind_of.ensures ∙ c.in-Put.is) mine n possible held none

pub returns-in-Head-clause-stands : goal.returns-in-Head-clause-stands
returns-in-Head-clause-stands c mine n possible held none = c.note_head.ensures.stands mine n (sym c.kind_of.ensures ∙ c.in-Head.is) held

pub returns-in-Other-clause-stands : goal.returns-in-Other-clause-stands
returns-in-Other-clause-stands c mine n possible held none = other_keeps c.args.self.now.config c.args.event.now.by n c.args.event.now mine c.args.self.now (sym c.kind_of.ensures ∙ c.in-Other.is) held

pub returns-in-Put-clause-awaits : goal.returns-in-Put-clause-awaits
returns-in-Put-clause-awaits c mine n entry held some = c.note_put.ensures.awaits mine n entry held some

pub returns-in-Look-clause-awaits : goal.returns-in-Look-clause-awaits
returns-in-Look-clause-awaits c mine n entry held some = absurd (no_put c.args.self.now.config c.args.event.now mine Kind.Look entry refl (sym c.kind_of.ensures ∙ c.in-Look.is) some)

pub returns-in-Fuo-clause-awaits : goal.returns-in-Fuo-clause-awaits
returns-in-Fuo-clause-awaits c mine n entry held some = absurd (no_put c.args.self.now.config c.args.event.now mine Kind.Fuo entry refl (sym c.kind_of.ensures ∙ c.in-Fuo.is) some)

pub returns-in-Row-clause-awaits : goal.returns-in-Row-clause-awaits
returns-in-Row-clause-awaits c mine n entry held some = absurd (no_put c.args.self.now.config c.args.event.now mine Kind.Row entry refl (sym c.kind_of.ensures ∙ c.in-Row.is) some)

pub returns-in-Head-clause-awaits : goal.returns-in-Head-clause-awaits
returns-in-Head-clause-awaits c mine n entry held some = absurd (no_put c.args.self.now.config c.args.event.now mine Kind.Head entry refl (sym c.kind_of.ensures ∙ c.in-Head.is) some)

pub returns-in-Other-clause-awaits : goal.returns-in-Other-clause-awaits
returns-in-Other-clause-awaits c mine n entry held some = absurd (no_put c.args.self.now.config c.args.event.now mine Kind.Other entry refl (sym c.kind_of.ensures ∙ c.in-Other.is) some)
