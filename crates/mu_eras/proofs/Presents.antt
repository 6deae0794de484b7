-- What the era under way holds, as it begins, goes on and is told.
use Rattle.std.proofs.Common.{◌≡◌, ◌∙◌, ℕ, suc, zero, ◌+◌, ◌≤◌, List, [], ◌∷◌, ◌++◌, None, Some, ap, arith, length, map, sym, take}
use Rattle.std.specs.Prelude.{Err, IfErr, IfSome, Ok, vec_capacity}
use Rattle.std.specs.List.{slice_get}
use Rattle.std.specs.declared.option.Option.{Option}
use Rattle.std.specs.declared.result.Result.{Result}
use Rattle.kv_store.specs.Commands.{Request}
use Rattle.kv_store.specs.Tables.{Table, replies, replies_from, store, store_from}
use Rattle.kv_store.specs.declared.store.Reply.{Reply}
use Rattle.kv_store.proofs.Runs.{length-replies}
use Rattle.mu_outcome.specs.Entries.{commands_in}
use Rattle.mu_engine.specs.Laws.{order_after}
use Rattle.mu_engine.specs.declared.hold.Hold.{Hold}
use Rattle.mu_engine.specs.Live.{Live, first_live}
use Rattle.mu_engine.specs.Moments.{IsMoment}
use Rattle.mu_engine.specs.declared.shape.Shape.{Shape}
use Rattle.mu_eras.specs.Applied.{AreFirst, IsTold, TellsOrder}
use Rattle.mu_eras.specs.Eras.{Era, IsReplyOver, order_of}
use Rattle.mu_eras.specs.Holding.{AreInside, HaveRoomFor, HoldEnded, HoldStores, handed_by}
use Rattle.mu_eras.specs.Orders.{numbered_after}
use Rattle.mu_eras.specs.Standing.{HoldsPresent, IsInside, era_of}
use Rattle.mu_eras.specs.declared.applied.Applied.{Applied}
use Rattle.mu_eras.specs.declared.present.Present.{Present}
use Rattle.mu_eras.proofs.Applying.{get_behind}
use Rattle.mu_eras.proofs.Holds.{with_holds}
use Rattle.mu_eras.proofs.Kept.{followed_none}
use Rattle.mu_eras.proofs.Linear.{get_numbered}
use Rattle.mu_eras.proofs.Orders.{replies_going_on}

-- a reply of the order of the newest era is one of the order over all eras
pub told_over_all : (past : List Era) (era : Era) (row : ℕ) (reply : Reply) → IsTold (store (order_of past)) era.job.commands (order_after era.job era.events) row reply → IsReplyOver past era row reply
told_over_all past era row reply is =
    let past_order = order_of past in
    let order = order_after era.job era.events in
    let base = store past_order in
    record {
      place = length past_order + is.place;
      command = is.command;
      submitted = is.submitted;
      ordered = get_behind past_order (map (numbered_after past_order) order) is.place ∙ get_numbered past_order order is.place is.command is.ordered;
      replied =
          ap (λ l. slice_get l (length past_order + is.place)) (replies_going_on past_order order)
          ∙ ap (λ n. slice_get (replies past_order ++ replies_from base order) (n + is.place)) (sym (length-replies past_order))
          ∙ get_behind (replies past_order) (replies_from base order) is.place ∙ is.replied;
    }

-- stores that have applied nothing of an era without commands, from an empty table
pub stores_first : (live : Live) (room : ℕ) (stores : List Applied) → live.job.commands ≡ [] → live.room ≤ room → AreFirst room stores → HoldStores (store []) live stores
stores_first live room stores none low first r a at =
    let is = first r a at in
    let entries = is.entries in
    let commands = is.commands in
    let room_is = is.room_is in
    let empty = ap length none in
    let taken : commands_in live.job (take a.entries (handed_by live r)) ≡ [] = ap (λ n. commands_in live.job (take n (handed_by live r))) entries in
    record {
      within = omega (arith, entries);
      table = is.table ∙ ap (λ l. store l) (sym taken);
      count = commands ∙ ap length (sym taken);
      room = omega (arith, empty, low, room_is, commands);
    }

-- nothing is told yet
pub tells_none : (base : Table) (commands order : List Request) (told : List (Option Reply)) → told ≡ [] → TellsOrder base commands order told
tells_none base commands order told none row reply at = absurd (never row (ap (λ l. slice_get l row) (sym none) ∙ at))
  where
    never : (row : ℕ) → slice_get {X = Option Reply} [] row ≡ Some (Some reply) → ⊥
    never zero there = cc
    never (suc n) there = cc

-- what follows of an answer, if there is one
pub if_some : (o : Option Reply) (P Q : Reply → Type 0) → ((reply : Reply) → P reply → Q reply) → IfSome o P → IfSome o Q
if_some None P Q follows held = held
if_some (Some reply) P Q follows held = follows reply held

-- the stores of the next era begin with what this one has left
pub next_stores : (base after : Table) (live : Live) (stores : List Applied) (next : Live) (shape : Shape) (holds : List Hold) (room : ℕ) → HoldEnded base live stores → after ≡ store_from base (order_after live.job live.events)
    → HaveRoomFor room stores → shape.room ≤ room → next ≡ with_holds (first_live shape) holds → HoldStores after next stores
next_stores base after live stores next shape holds room ended is have enough first r a there =
    let done = ended r a there in
    let entries = done.entries in
    let commands = done.commands in
    let roomy = have r a there in
    let empty = ap (λ (l : Live). length l.job.commands) first in
    let left = ap (λ (l : Live). l.room) first in
    let taken : commands_in next.job (take a.entries (handed_by next r)) ≡ [] = ap (λ n. commands_in next.job (take n (handed_by next r))) entries in
    record {
      within = omega (arith, entries);
      table = done.whole.table ∙ sym is ∙ ap (λ l. store_from after l) (sym taken);
      count = commands ∙ ap length (sym taken);
      room = omega (arith, empty, left, roomy, enough, commands);
    }

-- so does what is kept of it
pub next_inside : (d : Present) (shape : Shape) (holds : List Hold) → AreInside d.engine d.stores.items → d.engine ≡ with_holds (first_live shape) holds → d.replies.items ≡ [] → shape.room ≤ vec_capacity d.replies
    → length d.stores.items ≡ length holds → IsInside d
next_inside d shape holds stores first none space many = record {
  count = many ∙ sym (ap (λ (l : Live). length l.holds) first);
  places = ap length none ∙ sym (ap (λ (l : Live). length l.job.commands) first);
  space = (let empty = ap length none in let left = ap (λ (l : Live). l.room) first in omega (arith, empty, left, space));
  stores = stores;
}

-- the next era begins with what all eras have left
pub next_present : (past : List Era) (e d : Present) → HoldsPresent past e → IsMoment d.engine.job d.engine.events → IsInside d → HoldStores (store (order_of (era_of e ∷ past))) d.engine d.stores.items → d.replies.items ≡ [] → d.engine.events ≡ [] → HoldsPresent (era_of e ∷ past) d
next_present past e d held at inside stores none before = record {
  eras = (held.moment, held.eras);
  moment = at;
  count = inside.count;
  places = inside.places;
  space = inside.space;
  stores = stores;
  told = tells_none (store (order_of (era_of e ∷ past))) d.engine.job.commands (order_after d.engine.job d.engine.events) d.replies.items none;
  kept = followed_none d.engine d.replies.items before;
}

-- what holds anyway holds if there was an error
pub kept_if_err : {A B : Type 0} (o : Result A B) (T : Type 0) → T → IfErr o (λ _. T)
kept_if_err (Ok x) T t = tt
kept_if_err (Err x) T t = t
