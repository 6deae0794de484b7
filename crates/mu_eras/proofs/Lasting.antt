-- What the eras hold as the one under way goes on, and as the next begins.
use Rattle.std.proofs.Common.{◌≡◌, ◌∙◌, ℕ, suc, zero, ◌+◌, ◌<◌, ◌^◌, List, [], ◌∷◌, ◌++◌, Some, ap, append-nil, arith, inl, inr, length, map, refl, subst, sym}
use Rattle.std.specs.Prelude.{vec_capacity}
use Rattle.std.specs.declared.option.Option.{Option}
use Rattle.std.specs.List.{slice_get}
use Rattle.std.proofs.Math.Logic.{∥∥₁_map}
use Rattle.std.proofs.lemmas.List.{length-append, length-map}
use Rattle.kv_store.specs.Tables.{Table, store}
use Rattle.kv_store.specs.declared.store.Reply.{Reply}
use Rattle.mu_engine.specs.declared.hold.Hold.{Hold}
use Rattle.mu_engine.specs.Live.{Live, first_live}
use Rattle.mu_engine.specs.Moments.{GoesOn}
use Rattle.mu_engine.specs.Shapes.{HasLimits}
use Rattle.mu_engine.proofs.Going.{goes_still}
use Rattle.mu_eras.specs.Applied.{IsKept}
use Rattle.mu_eras.specs.Eras.{Era, order_of, submitted_over}
use Rattle.mu_eras.specs.Holding.{HoldStores}
use Rattle.mu_eras.specs.Lasting.{HoldsEras, IsLasting, IsSettled, KeepsLast, KeepsOn, Lasts}
use Rattle.mu_eras.specs.Orders.{numbered_after}
use Rattle.mu_eras.specs.Standing.{HoldsPresent, IsInside, era_of}
use Rattle.mu_eras.specs.declared.applied.Applied.{Applied}
use Rattle.mu_eras.specs.declared.present.Present.{Present}
use Rattle.mu_eras.specs.declared.succession.Succession.{Succession}
use Rattle.mu_eras.proofs.Holds.{with_holds}
use Rattle.mu_eras.proofs.Presents.{told_over_all}
use Rattle.mu_eras.proofs.Rows.{eras_go_further_law, reply_over_rows}
use Rattle.mu_eras.proofs.Wholes.{all_kept, whole_if_settled}

-- the era under way went on
pub lasting_on : (e d : Succession) → IsLasting e → IsInside d.present → d.shape ≡ e.shape → d.past ≡ e.past → length d.present.engine.holds ≡ length e.present.engine.holds
    → length d.present.engine.job.commands + d.present.engine.room ≡ length e.present.engine.job.commands + e.present.engine.room
    → vec_capacity d.present.replies ≡ vec_capacity e.present.replies → vec_capacity d.last ≡ vec_capacity e.last → IsLasting d
lasting_on e d was inside shape count holds room space last_space =
    let same = ap (λ s. s.room) shape in
    record {
      inside = inside;
      limits = subst HasLimits (sym shape) was.limits;
      replicas = ap (λ s. s.replicas) shape ∙ was.replicas ∙ sym holds;
      room = room ∙ was.room ∙ sym same;
      space = (let had = was.space in omega (arith, same, had, space));
      space_for_last = (let had = was.space_for_last in omega (arith, same, had, last_space));
      numbers = (let had = was.numbers in omega (arith, same, had, count));
    }

-- and nothing else changed
pub eras_on : (past : List Era) (e d : Succession) → HoldsEras past e → HoldsPresent past d.present → d.past ≡ e.past → d.ended ≡ e.ended → d.last.items ≡ e.last.items → HoldsEras past d
eras_on past e d held present count ended last = record {
  present = present;
  whole = held.whole;
  count = count ∙ held.count;
  ended = ended ∙ held.ended;
  last = subst (λ (l : List (Option Reply)). KeepsLast past l) (sym last) held.last;
}

-- what the replicas have applied stays if they are held otherwise
stores_held : (base : Table) (live : Live) (holds : List Hold) (stores : List Applied) → HoldStores base live stores → HoldStores base (with_holds live holds) stores
stores_held base live holds stores held r a at = let is = held r a at in record { within = is.within; table = is.table; count = is.count; room = is.room }

-- what holds the replicas has changed
held_present : (past : List Era) (e : Present) (live : Live) (holds : List Hold) → live ≡ with_holds e.engine holds → length holds ≡ length e.engine.holds → HoldsPresent past e
    → HoldsPresent past (record { engine = live; stores = e.stores; replies = e.replies })
held_present past e live holds is many held =
    subst (λ (l : Live). HoldsPresent past (record { engine = l; stores = e.stores; replies = e.replies })) (sym is) (record {
      eras = held.eras;
      moment = held.moment;
      count = held.count ∙ sym many;
      places = held.places;
      space = held.space;
      stores = stores_held (store (order_of past)) e.engine holds e.stores.items held.stores;
      told = held.told;
      kept = λ r low. held.kept r (omega (arith, low, many));
    })

held_inside : (e : Present) (live : Live) (holds : List Hold) → live ≡ with_holds e.engine holds → length holds ≡ length e.engine.holds → IsInside e → IsInside (record { engine = live; stores = e.stores; replies = e.replies })
held_inside e live holds is many inside =
    subst (λ (l : Live). IsInside (record { engine = l; stores = e.stores; replies = e.replies })) (sym is) (record {
      count = inside.count ∙ sym many;
      places = inside.places;
      space = inside.space;
      stores = ∥∥₁_map inside.stores (λ h. (h.0, stores_held h.0 e.engine holds e.stores.items h.1));
    })

-- the eras with an engine in place of another
abbrev pub with_live : Succession → Live → Succession
with_live e live = record {
  alloc = e.alloc;
  shape = e.shape;
  present = record { engine = live; stores = e.present.stores; replies = e.present.replies };
  last = e.last;
  past = e.past;
  ended = e.ended;
  rounds = e.rounds;
  halted = e.halted;
}

pub lasting_held : (e : Succession) (live : Live) (holds : List Hold) → live ≡ with_holds e.present.engine holds → length holds ≡ length e.present.engine.holds → IsLasting e → IsLasting (with_live e live)
lasting_held e live holds is many was =
    lasting_on e (with_live e live) was (held_inside e.present live holds is many was.inside) refl refl (ap (λ (v : Live). length v.holds) is ∙ many) (ap (λ (v : Live). length v.job.commands + v.room) is) refl refl

pub eras_held : (past : List Era) (e : Succession) (live : Live) (holds : List Hold) → live ≡ with_holds e.present.engine holds → length holds ≡ length e.present.engine.holds → HoldsEras past e → HoldsEras past (with_live e live)
eras_held past e live holds is many held = eras_on past e (with_live e live) held (held_present past e.present live holds is many held.present) refl refl refl

-- the events and the commands stay
pub goes_held : (live new : Live) (holds : List Hold) → new ≡ with_holds live holds → GoesOn live.job live.events new.job new.events
goes_held live new holds is = subst (λ (l : Live). GoesOn live.job live.events l.job l.events) (sym is) (goes_still live.job live.events)

-- nothing is kept before the first era
pub keeps_none : (kept : List (Option Reply)) → kept ≡ [] → KeepsLast [] kept
keeps_none kept none = record {
  before = 0;
  first = refl;
  count = (let long = ap length none in omega (arith, long));
  all = λ k low. (let long = ap length none in absurd (omega (arith, long, low)));
  told = λ k reply at. absurd (never k reply (sym (ap (λ l. slice_get l k) none) ∙ at));
}
  where
    never : (k : ℕ) (reply : Reply) → slice_get {X = Option Reply} [] k ≡ Some (Some reply) → ⊥
    never zero reply at = cc
    never (suc k) reply at = cc

-- the replies that are kept once an era has ended
keeps_next : (past : List Era) (e : Succession) (r : ℕ) (kept : List (Option Reply)) → HoldsEras past e → IsSettled e.present r → kept ≡ e.present.replies.items → KeepsLast (era_of e.present ∷ past) kept
keeps_next past e r kept held settled same = record {
  all = λ k low.
      (let long = ap length same in
      let places = held.present.places in
      subst (λ (l : List (Option Reply)). IsKept l k) (sym same)
      (all_kept e.present.engine r e.present.replies.items held.present.moment settled.low settled.inside settled.all held.present.kept k (omega (arith, low, long, places))));
  before = length (submitted_over past);
  first = refl;
  count =
      (let long = ap length same in
      let places = held.present.places in
      let both = length-append (submitted_over past) (map (numbered_after (order_of past)) e.present.engine.job.commands) in
      let mapped = length-map e.present.engine.job.commands (numbered_after (order_of past)) in
      omega (arith, long, places, both, mapped));
  told = λ k reply at. reply_over_rows past (era_of e.present) k reply (told_over_all past (era_of e.present) k reply (held.present.told k reply (ap (λ l. slice_get l k) (sym same) ∙ at)));
}

pub eras_next : (past : List Era) (e d : Succession) (r : ℕ) → HoldsEras past e → IsSettled e.present r → HoldsPresent (era_of e.present ∷ past) d.present → d.last.items ≡ e.present.replies.items
    → d.past ≡ e.past + length e.present.engine.job.commands → d.ended ≡ e.ended + 1 → HoldsEras (era_of e.present ∷ past) d
eras_next past e d r held settled present last count ended = record {
  present = present;
  whole = (whole_if_settled e.present.engine r held.present.moment settled.low settled.all, held.whole);
  count =
      (let was = held.count in
      let both = length-append (submitted_over past) (map (numbered_after (order_of past)) e.present.engine.job.commands) in
      let mapped = length-map e.present.engine.job.commands (numbered_after (order_of past)) in
      omega (arith, count, was, both, mapped));
  ended = (let was = held.ended in omega (arith, ended, was));
  last = keeps_next past e r d.last.items held settled last;
}

-- so it lasts
pub lasts_on : (past : List Era) (e d : Succession) → HoldsEras past d → KeepsOn e d → d.present.engine.job ≡ e.present.engine.job → Lasts past e d
lasts_on past e d held goes same = record {
  later = past;
  holds = held;
  goes = inl (refl, goes);
  same = ap (λ j. submitted_over past ++ map (numbered_after (order_of past)) j.commands) same;
}

pub lasts_next : (past : List Era) (e d : Succession) → HoldsEras (era_of e.present ∷ past) d → d.present.engine.job.commands ≡ [] → Lasts past e d
lasts_next past e d held none = record {
  later = era_of e.present ∷ past;
  holds = held;
  goes = inr ([], era_of e.present, refl, goes_still e.present.engine.job e.present.engine.events);
  same =
      ap (λ l. submitted_over (era_of e.present ∷ past) ++ map (numbered_after (order_of (era_of e.present ∷ past))) l) none ∙ append-nil (submitted_over (era_of e.present ∷ past));
}

-- also if it went on before that
pub lasts_later : (past : List Era) (e m d : Succession) → KeepsOn e m → m.present.engine.job ≡ e.present.engine.job → Lasts past m d → Lasts past e d
lasts_later past e m d goes same lasts = record {
  later = lasts.later;
  holds = lasts.holds;
  goes = eras_go_further_law past (era_of e.present) past (era_of m.present) lasts.later (era_of d.present) (inl (refl, goes)) lasts.goes;
  same = lasts.same ∙ ap (λ j. submitted_over past ++ map (numbered_after (order_of past)) j.commands) same;
}
