use Rattle.std.proofs.Common.{◌≡◌, ◌∙◌, ◌+◌, ◌-◌, ◌<◌, ◌++◌, ◌∷◌, [], List, ap, arith, drop, length, map, refl, subst, sym, ℕ}
use Rattle.std.proofs.lemmas.List.{take_at}
use Rattle.kv_store.specs.Commands.{Request}
use Rattle.mu_model.specs.declared.config.Row.{Row}
use Rattle.mu_model.specs.Contents.{IsConfig, row_count, rows_before}
use Rattle.mu_model.specs.Growing.{with_more}
use Rattle.mu_model.specs.Legal.{IsLegal}
use Rattle.mu_engine.specs.Growing.{HaveRoom}
use Rattle.mu_engine.specs.Inside.{live_of}
use Rattle.mu_engine.specs.Live.{Live, next_command, row_of, submitted}
use Rattle.mu_engine.specs.Seats.{AreSeated, hold_of}
use Rattle.mu_engine.proofs.Adding.{live_by, live_same, moment_grown}
use Rattle.mu_engine.specs.Moments.{GoesOn}
use Rattle.mu_engine.proofs.Going.{goes_command, goes_still}
use Rattle.mu_engine.proofs.Taking.{as_many_rows, kept, taken}
use Rattle.mu_engine.proofs.engine.Engine.submit.Goals as goal

pub grow-requires-clause-grown : goal.grow-requires-clause-grown
grow-requires-clause-grown c =
    let e = c.self.inside in
    let command = c.next_command-command.result in
    let row = c.encode-row.result in
    let told = c.next_command-command.ensures in
    let client = ap (λ (x : Request). x.client) told in
    let number = ap (λ (x : Request). x.number) told ∙ ap (λ i. rows_before e.config i (row_count e.config) + 1) (sym client) in
    let many = as_many_rows (live_of e).job e.port.events c.self.invariant.moment in
    let few : row_count e.config < 1500 = omega (arith, many, c.self.invariant.few, c.if-self-eq0.false) in
    let moment = moment_grown (live_of e).job e.port.events command row.words c.self.invariant.moment c.self.invariant.width few c.is_command.ensures number c.encode-row.ensures.words c.encode-row.ensures.client c.encode-row.ensures.number c.encode-row.ensures.rest in
    let of : List ℕ → Row = λ ws. record { words = ws } in
    let spelled : row ≡ row_of command = ap of c.encode-row.ensures.words in
    subst (λ k. IsConfig (with_more k (row ∷ []))) (sym c.self.invariant.same) (subst (λ r. IsConfig (with_more e.config (r ∷ []))) (sym spelled) moment.config)

pub grow-requires-clause-seated : goal.grow-requires-clause-seated
grow-requires-clause-seated c =
    let e = c.self.inside in
    let one = c.make_room.new.seats in
    let back = take_at one (drop (length one) e.seats.items) e.seats.len (c.make_room.auto.seats ∙ c.as_mut_slice.ensures.len) in
    subst (λ l. AreSeated e.port.config e.port.events l) (sym (c.as_mut_slice-2.ensures.value ∙ back)) c.in_ok-make_room.ensures.seated

pub grow-requires-clause-room : goal.grow-requires-clause-room
grow-requires-clause-room c =
    let e = c.self.inside in
    let one = c.make_room.new.seats in
    let back = take_at one (drop (length one) e.seats.items) e.seats.len (c.make_room.auto.seats ∙ c.as_mut_slice.ensures.len) in
    subst (λ l. HaveRoom e.port.config l) (sym (c.as_mut_slice-2.ensures.value ∙ back)) c.in_ok-make_room.ensures.room

pub add_last-requires-clause-good : goal.add_last-requires-clause-good
add_last-requires-clause-good c =
    let e = c.self.inside in
    let command = c.next_command-command.result in
    let row = c.encode-row.result in
    let told = c.next_command-command.ensures in
    let client = ap (λ (x : Request). x.client) told in
    let number = ap (λ (x : Request). x.number) told ∙ ap (λ i. rows_before e.config i (row_count e.config) + 1) (sym client) in
    let many = as_many_rows (live_of e).job e.port.events c.self.invariant.moment in
    let few : row_count e.config < 1500 = omega (arith, many, c.self.invariant.few, c.if-self-eq0.false) in
    let moment = moment_grown (live_of e).job e.port.events command row.words c.self.invariant.moment c.self.invariant.width few c.is_command.ensures number c.encode-row.ensures.words c.encode-row.ensures.client c.encode-row.ensures.number c.encode-row.ensures.rest in
    let of : List ℕ → Row = λ ws. record { words = ws } in
    let spelled : row ≡ row_of command = ap of c.encode-row.ensures.words in
    subst IsConfig (sym c.in_ok-copies.ensures.memory) (subst (λ r. IsConfig (with_more e.config (r ∷ []))) (sym spelled) moment.config)

pub invariant_of-self-2 : goal.invariant_of-self-2
invariant_of-self-2 c =
    let e = c.self.inside in
    let command = c.next_command-command.result in
    let row = c.encode-row.result in
    let told = c.next_command-command.ensures in
    let client = ap (λ (x : Request). x.client) told in
    let number = ap (λ (x : Request). x.number) told ∙ ap (λ i. rows_before e.config i (row_count e.config) + 1) (sym client) in
    let many = as_many_rows (live_of e).job e.port.events c.self.invariant.moment in
    let few : row_count e.config < 1500 = omega (arith, many, c.self.invariant.few, c.if-self-eq0.false) in
    let moment = moment_grown (live_of e).job e.port.events command row.words c.self.invariant.moment c.self.invariant.width few c.is_command.ensures number c.encode-row.ensures.words c.encode-row.ensures.client c.encode-row.ensures.number c.encode-row.ensures.rest in
    let of : List ℕ → Row = λ ws. record { words = ws } in
    let spelled : row ≡ row_of command = ap of c.encode-row.ensures.words in
    let own = c.in_ok-copies.ensures.own in
    let two = c.grow.new.seats in
    let back = take_at two _ _ (c.grow.auto.seats ∙ c.as_mut_slice-2.ensures.len) in
    taken e _ command row c.self.invariant moment spelled own c.push_reserved.ensures.items c.push_reserved.ensures.capacity (omega (arith, c.if-self-eq0.false))
    (c.add_last.ensures.config ∙ (c.in_ok-copies.ensures.memory ∙ sym own)) c.add_last.ensures.events c.add_last.ensures.limit
    (subst (λ l. AreSeated (with_more e.config (row ∷ [])) e.port.events l) (sym back) (subst (λ k. AreSeated (with_more k (row ∷ [])) e.port.events two) c.self.invariant.same c.grow.ensures.seated))

pub returns-clause-taken : goal.returns-clause-taken
returns-clause-taken c =
    let e = c.self.inside in
    let command = c.next_command-command.result in
    let row = c.encode-row.result in
    let of : List ℕ → Row = λ ws. record { words = ws } in
    let spelled : row ≡ row_of command = ap of c.encode-row.ensures.words in
    let one = c.make_room.new.seats in
    let first = take_at one (drop (length one) e.seats.items) e.seats.len (c.make_room.auto.seats ∙ c.as_mut_slice.ensures.len) in
    let two = c.grow.new.seats in
    let back = take_at two _ _ (c.grow.auto.seats ∙ c.as_mut_slice-2.ensures.len) in
    let holds = ap (map hold_of) back ∙ c.grow.ensures.holds ∙ ap (map hold_of) (c.as_mut_slice-2.ensures.value ∙ first) ∙ c.in_ok-make_room.ensures.holds ∙ ap (map hold_of) c.as_mut_slice.ensures.value in
    let config = c.in_ok-copies.ensures.own ∙ ap (λ r. with_more e.config (r ∷ [])) spelled in
    live_same _ (with_more e.config (row_of command ∷ [])) _ (e.commands.items ++ command ∷ []) _ (e.room - 1) _ e.port.events _ (map hold_of e.seats.items) config c.push_reserved.ensures.items refl c.add_last.ensures.events holds
    ∙ ap (λ k. live_by (with_more e.config (row_of k ∷ [])) (e.commands.items ++ k ∷ []) (e.room - 1) e.port.events (map hold_of e.seats.items)) c.next_command-command.ensures
    ∙ ap (λ (v : Live). submitted v c.args.client c.args.op) c.self.view_is

pub returns-clause-goes : goal.returns-clause-goes
returns-clause-goes c =
    let now = c.args.self.now in
    let command = next_command now.job c.args.client c.args.op in
    subst (λ (v : Live). GoesOn now.job now.events v.job v.events) (sym (returns-clause-taken c)) (goes_command now.job now.events command)

pub returns-then-self-eq0-clause-goes : goal.returns-then-self-eq0-clause-goes
returns-then-self-eq0-clause-goes c = goes_still c.args.self.now.job c.args.self.now.events

pub returns-in_err-copies-clause-goes : goal.returns-in_err-copies-clause-goes
returns-in_err-copies-clause-goes c = goes_still c.args.self.now.job c.args.self.now.events

pub invariant_of-self : goal.invariant_of-self
invariant_of-self c =
    let e = c.self.inside in
    let one = c.make_room.new.seats in
    let back = take_at one (drop (length one) e.seats.items) e.seats.len (c.make_room.auto.seats ∙ c.as_mut_slice.ensures.len) in
    kept e _ c.self.invariant refl refl refl refl refl (subst (λ k. IsLegal k e.port.events) (sym c.self.invariant.same) c.self.invariant.moment.legal)
    (subst (λ l. AreSeated e.port.config e.port.events l) (sym back) c.make_room.ensures.seated)

pub returns-in_err-make_room-clause-goes : goal.returns-in_err-make_room-clause-goes
returns-in_err-make_room-clause-goes c =
    let now = c.args.self.now in
    subst (λ (v : Live). GoesOn now.job now.events v.job v.events) (sym c.self.view_is) (goes_still now.job now.events)
