use Rattle.std.proofs.Common.{◌∙◌, ◌∷◌, refl, subst}
use Rattle.mu_words.specs.Verbs.{IsMove}
use Rattle.shared_steps.specs.Seats.{Port}
use Rattle.shared_steps.proofs.Ports.{Made, Ready, allows_move, expects_kept, name_is_of_layout, now_part, now_port, now_possible, place_is_inside, seat_is_ready, verb_in_range}
use Rattle.shared_steps.proofs.seat.PortSeat.step.Goals as goal

pub word_place-place-requires-clause-named : goal.word_place-place-requires-clause-named
word_place-place-requires-clause-named c = name_is_of_layout _ _ _ (seat_is_ready _ _ _ _ _ c.words.view_is c.self.view_is c.words.invariant c.self.invariant c.requires.of c.requires.allowed)

pub move_of-step-requires-clause-fields : goal.move_of-step-requires-clause-fields
move_of-step-requires-clause-fields c = verb_in_range _ _ _ (seat_is_ready _ _ _ _ _ c.words.view_is c.self.view_is c.words.invariant c.self.invariant c.requires.of c.requires.allowed)

pub make-word-requires-clause-inside : goal.make-word-requires-clause-inside
make-word-requires-clause-inside c = place_is_inside _ _ _ _ (seat_is_ready _ _ c.args.verb _ _ c.words.view_is c.self.view_is c.words.invariant c.self.invariant c.requires.of c.requires.allowed) c.word_place-place.ensures

pub make-word-requires-clause-rule : goal.make-word-requires-clause-rule
make-word-requires-clause-rule c =
    allows_move _ _ _ _ c.expected_word-expected.result c.move_of-step.result (seat_is_ready _ _ _ _ _ c.words.view_is c.self.view_is c.words.invariant c.self.invariant c.requires.of c.requires.allowed) c.word_place-place.ensures c.expected_word-expected.ensures
    (subst (λ g. IsMove c.words.inside.layout.ring g c.args.verb c.expected_word-expected.result c.move_of-step.result) c.close_grant-grant.ensures c.move_of-step.ensures)

can : (c : goal.After-note) → Ready c.words.inside c.self.inside c.args.verb
can c = seat_is_ready _ _ _ _ _ c.words.view_is c.self.view_is c.words.invariant c.self.invariant c.requires.of c.requires.allowed

made : (c : goal.After-note) → Made c.words.inside c.self.inside c.args.verb (can c) record { seat = c.make-word.new.seat; id = c.self.inside.id; found = c.note.new.found } c.make-word.result c.expected_word-expected.result c.note.result
made c = record {
  table = c.make-word.ensures.same.0;
  id = refl;
  told = c.make-word.ensures.grown;
  expects = expects_kept _ _ _ (can c) _ c.expected_word-expected.ensures;
  answer = c.note.ensures.answer;
  found = c.note.ensures.found;
}

pub invariant_of-self : goal.invariant_of-self
invariant_of-self c = now_port _ _ _ (can c) _ _ _ _ (made c)

pub returns-clause-part : goal.returns-clause-part
returns-clause-part c = now_part _ _ _ (can c) _ _ _ _ (made c) ∙ (λ i. after (c.self.view_is i))
  where
    after : Port → Port
    after p = record { table = p.table; config = p.config; id = p.id; part = record { by = p.id; verb = c.args.verb; answer = c.note.result } ∷ p.part }

pub returns-clause-possible : goal.returns-clause-possible
returns-clause-possible c = now_possible _ _ _ (can c) _ _ _ _ _ c.words.view_is (made c)
