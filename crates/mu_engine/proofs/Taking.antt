-- An engine that took one command more, or that played a round.
use Rattle.std.proofs.Common.{◌≡◌, ◌∙◌, ◌+◌, List, [], ◌∷◌, ◌++◌, Some, ap, arith, length, refl, subst, sym}
use Rattle.std.specs.Prelude.{option_to_list, vec_capacity}
use Rattle.std.specs.declared.option.Option.{Option}
use Rattle.std.specs.List.{slice_get}
use Rattle.std.proofs.lemmas.List.{length_push}
use Rattle.kv_store.specs.Commands.{Request}
use Rattle.mu_input.specs.declared.job.Job.{Job}
use Rattle.mu_model.specs.declared.config.Config.{Config}
use Rattle.mu_model.specs.declared.config.Row.{Row}
use Rattle.mu_model.specs.declared.event.Event.{Event}
use Rattle.mu_model.specs.Contents.{row_count}
use Rattle.mu_model.specs.Growing.{with_more}
use Rattle.mu_model.specs.Legal.{IsLegal}
use Rattle.mu_model.proofs.Lists.{get_front, get_push_here}
use Rattle.mu_input.proofs.JobConfigs.{as_many}
use Rattle.mu_engine.specs.declared.engine.Engine.TheInside as engine
use Rattle.mu_engine.specs.declared.shape.Shape.{Shape}
use Rattle.mu_engine.specs.Growing.{ArePairs}
use Rattle.mu_engine.specs.Inside.{IsEngine, live_of}
use Rattle.mu_engine.specs.Live.{row_of, with_command}
use Rattle.mu_engine.specs.Moments.{IsMoment}
use Rattle.mu_engine.specs.Seats.{AreSeated}
use Rattle.mu_engine.specs.Shapes.{HasLimits, first_config, no_script}
use Rattle.mu_engine.proofs.First.{first_is_config, none_spelled}

-- the last pair
pub record IsPopped (g : Config) (old new : List (Config × Config)) (pair : Config × Config) : Type 0 where
  pub first : pair.0 ≡ g
  pub second : pair.1 ≡ g
  pub rest : ArePairs g new
  pub count : length old ≡ length new + 1

pub popped : (g : Config) (old new : List (Config × Config)) (o : Option (Config × Config)) (pair : Config × Config) → old ≡ new ++ option_to_list o → o ≡ Some pair → ArePairs g old → IsPopped g old new pair
popped g old new o pair items is are = record {
  first = own.0;
  second = own.1;
  rest = λ k x at. are k x (subst (λ l. slice_get l k ≡ Some x) (sym whole) (get_front new (pair ∷ []) k x at));
  count = ap length whole ∙ length_push new pair;
}
  where
    whole : old ≡ new ++ pair ∷ []
    whole = items ∙ ap (λ x. new ++ option_to_list x) is

    own : (pair.0 ≡ g) × (pair.1 ≡ g)
    own = are (length new) pair (subst (λ l. slice_get l (length new) ≡ Some pair) (sym whole) (get_push_here new (length new) pair refl))

-- a job by its parts
abbrev pub job_by : Config → List Request → Job
job_by c commands = record { config = c; commands = commands; script = no_script }

-- as many commands as rows
pub as_many_rows : (job : Job) (events : List Event) → IsMoment job events → row_count job.config ≡ length job.commands
as_many_rows job events at = as_many job.config.width job.commands job.config.rows at.heads

pub taken : (e d : engine.Inside) (command : Request) (row : Row) → IsEngine e → IsMoment (with_command (live_of e).job command) e.port.events
    → row ≡ row_of command → d.config ≡ with_more e.config (row ∷ []) → d.commands.items ≡ e.commands.items ++ command ∷ [] → vec_capacity d.commands ≡ vec_capacity e.commands
    → d.room + 1 ≡ e.room → d.port.config ≡ d.config → d.port.events ≡ e.port.events → d.port.row_limit ≡ e.port.row_limit
    → AreSeated (with_more e.config (row ∷ [])) e.port.events d.seats.items → IsEngine d
taken e d command row was moment spelled config commands capacity room same events limit seated = record {
  moment =
      subst (λ c. IsMoment (job_by c d.commands.items) d.port.events) (sym (config ∙ ap (λ r. with_more e.config (r ∷ [])) spelled))
      (subst (λ l. IsMoment (job_by (with_more e.config (row_of command ∷ [])) l) d.port.events) (sym commands)
      (subst (λ l. IsMoment (with_command (live_of e).job command) l) (sym events) moment));
  width = ap (λ c. c.width) config ∙ was.width;
  same = same;
  seated = subst (λ l. AreSeated d.config l d.seats.items) (sym events) (subst (λ c. AreSeated c e.port.events d.seats.items) (sym config) seated);
  space = (let long = ap length commands ∙ length_push e.commands.items command in let space = was.space in omega (arith, long, room, capacity, space));
  few = (let long = ap length commands ∙ length_push e.commands.items command in let few = was.few in omega (arith, long, room, few));
  limit = (let long = ap length commands ∙ length_push e.commands.items command in let bound = was.limit in omega (arith, long, room, limit, bound));
}

-- the engine after a change that keeps its commands
pub kept : (e d : engine.Inside) → IsEngine e → d.config ≡ e.config → d.commands ≡ e.commands → d.room ≡ e.room → d.port.config ≡ e.port.config → d.port.row_limit ≡ e.port.row_limit
    → IsLegal d.port.config d.port.events → AreSeated e.port.config d.port.events d.seats.items → IsEngine d
kept e d was config commands room same limit legal seated = record {
  moment = subst (λ c. IsMoment (job_by c d.commands.items) d.port.events) (sym config) (subst (λ v. IsMoment (job_by e.config v) d.port.events) (sym items) (record {
    config = was.moment.config;
    heads = was.moment.heads;
    spelled = was.moment.spelled;
    legal = subst (λ c. IsLegal c d.port.events) (same ∙ was.same) legal;
  }));
  width = ap (λ c. c.width) config ∙ was.width;
  same = same ∙ was.same ∙ sym config;
  seated = subst (λ c. AreSeated c d.port.events d.seats.items) (was.same ∙ sym config) seated;
  space = (let long = ap length items in let room_in = ap (λ v. vec_capacity v) commands in let space = was.space in omega (arith, long, room, room_in, space));
  few = (let long = ap length items in let few = was.few in omega (arith, long, room, few));
  limit = (let long = ap length items in let bound = was.limit in omega (arith, long, room, limit, bound));
}
  where
    items : d.commands.items ≡ e.commands.items
    items = ap (λ v. v.items) commands

-- an engine before any command and any event
pub first : (shape : Shape) (d : engine.Inside) → HasLimits shape → d.config ≡ first_config shape → d.commands.items ≡ [] → vec_capacity d.commands ≡ shape.room → d.room ≡ shape.room
    → d.port.config ≡ d.config → d.port.events ≡ [] → d.port.row_limit ≡ shape.room → AreSeated d.config [] d.seats.items → IsEngine d
first shape d limits config commands capacity room same events limit seated = record {
  moment =
      subst (λ c. IsMoment (job_by c d.commands.items) d.port.events) (sym config)
      (subst (λ l. IsMoment (job_by (first_config shape) l) d.port.events) (sym commands)
      (subst (λ l. IsMoment (job_by (first_config shape) []) l) (sym events) (record {
        config = first_is_config shape limits;
        heads = tt;
        spelled = none_spelled shape;
        legal = tt;
      })));
  width = ap (λ c. c.width) config;
  same = same;
  seated = subst (λ l. AreSeated d.config l d.seats.items) (sym events) seated;
  space = (let none = ap length commands in omega (arith, none, capacity, room));
  few = (let none = ap length commands in let few = limits.room in omega (arith, none, room, few));
  limit = (let none = ap length commands in omega (arith, none, room, limit));
}
