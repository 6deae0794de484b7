-- An engine without an end at a moment: how it goes on.
use Rattle.std.proofs.Common.{◌≡◌, ◌∙◌, ℕ, List, [], ◌∷◌, ◌++◌, None, Some, ap, arith, length, refl, subst, sym}
use Rattle.std.specs.Prelude.{IfSome}
use Rattle.std.specs.declared.option.Option.{Option}
use Rattle.std.specs.List.{slice_get}
use Rattle.kv_store.specs.Commands.{Request}
use Rattle.kv_store.specs.Sessions.{IsInSession}
use Rattle.kv_store.specs.Tables.{replies}
use Rattle.kv_store.specs.declared.command.Op.{Op}
use Rattle.kv_store.specs.declared.store.Reply.{Reply}
use Rattle.mu_engine.specs.Laws.{order_after}
use Rattle.mu_engine.specs.Live.{Live, next_command, submitted}
use Rattle.mu_engine.specs.Moments.{IsMoment}
use Rattle.mu_eras.specs.Eras.{AreEras, Era, IsReplyTo, order_of, submitted_over}
use Rattle.mu_eras.specs.Lasting.{HoldsEras, KeepsEras, Lasts}
use Rattle.mu_eras.specs.Orders.{going_on, numbered_after}
use Rattle.mu_eras.specs.Standing.{era_of}
use Rattle.mu_eras.specs.declared.succession.Succession.{Succession}
use Rattle.mu_eras.proofs.Fresh.{next_unordered, order_still, submitted_more}
use Rattle.mu_eras.proofs.Linear.{order_goes_over, sessions_over}
use Rattle.ordered_store.specs.Moments.{IsAnswer, Moment, Orders, Takes, with_more, with_row}
use Rattle.ordered_eras.specs.Moments.{IsAt}

eras_at : (e : Succession) (moment : Moment) → (at : IsAt e moment) → AreEras (era_of e.present ∷ at.past)
eras_at e moment at = (at.holds.present.moment, at.holds.present.eras)

-- at a moment each client's commands stand in order and once
pub at_moment : (e : Succession) (moment : Moment) (past : List Era) → HoldsEras past e → moment.submitted ≡ submitted_over (era_of e.present ∷ past) → moment.order ≡ order_of (era_of e.present ∷ past) → IsAt e moment
at_moment e moment past held submitted order = record {
  past = past;
  holds = held;
  submitted = submitted;
  order = order;
  sessions = subst IsInSession (sym order) (sessions_over (era_of e.present ∷ past) (held.present.moment, held.present.eras));
}

-- a command is taken
pub takes_at : (e d : Succession) (moment : Moment) (client : ℕ) (op : Op) (row : ℕ) → IsAt e moment → ((past : List Era) → HoldsEras past e → row ≡ length (submitted_over (era_of e.present ∷ past)))
    → d.present.engine ≡ submitted e.present.engine client op → KeepsEras e d → Takes (λ m. IsAt d m) moment op row
takes_at e d moment client op row at row_is taken keeps = record {
  next = row_is at.past at.holds ∙ sym (ap length at.submitted);
  command = numbered_after (order_of at.past) own;
  asks = refl;
  new = λ place there.
      next_unordered at.past (era_of e.present) d.present.engine.job d.present.engine.events own place (eras_at e moment at) held.present.moment grown (omega arith)
      (sym (ap (λ l. slice_get l place) at.order) ∙ there);
  now =
      at_moment d (with_row moment (numbered_after (order_of at.past) own)) at.past held
      (ap (λ l. l ++ numbered_after (order_of at.past) own ∷ []) at.submitted
      ∙ sym (submitted_more at.past (era_of e.present) d.present.engine.job d.present.engine.events own grown)) (at.order ∙ ap (going_on (order_of at.past)) (sym still));
}
  where
    own : Request
    own = next_command e.present.engine.job client op

    held : HoldsEras at.past d
    held = keeps at.past at.holds

    grown : d.present.engine.job.commands ≡ e.present.engine.job.commands ++ own ∷ []
    grown = ap (λ (l : Live). l.job.commands) taken

    still : order_after d.present.engine.job d.present.engine.events ≡ order_after e.present.engine.job e.present.engine.events
    still =
        ap (λ (l : Live). order_after l.job l.events) taken
        ∙ order_still e.present.engine.job e.present.engine.events own at.holds.present.moment (subst (λ (l : Live). IsMoment l.job l.events) taken held.present.moment)

-- more commands stand in the order
pub orders_at : (e d : Succession) (moment : Moment) → (at : IsAt e moment) → Lasts at.past e d → Orders (λ m. IsAt d m) moment
orders_at e d moment at lasts =
    let begins = order_goes_over at.past (era_of e.present) lasts.later (era_of d.present) (eras_at e moment at) (lasts.holds.present.moment, lasts.holds.present.eras) lasts.goes in
    record {
      more = begins.0;
      now = at_moment d (with_more moment begins.0) lasts.later lasts.holds (at.submitted ∙ sym lasts.same) (ap (λ l. l ++ begins.0) at.order ∙ sym begins.1);
    }
