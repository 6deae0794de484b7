use Rattle.std.proofs.Common.{◌∷◌, ◌≡◌, ◌∙◌, subst, sym, true}
use Rattle.mu_model.specs.declared.event.Verb.{Verb}
use Rattle.mu_model.specs.Serving.{looked_since_close}
use Rattle.mu_grant.specs.Stands.{StandsFor}
use Rattle.mu_grant.proofs.Events.{in_order}
use Rattle.mu_grant.proofs.Others.{asks_change_guests, with_guests}
use Rattle.mu_grant.proofs.grants.Grants.note_own.Goals as goal

pub returns : goal.returns
returns c n r mine looked held =
    let e = c.args.event.now in
    subst (λ s. (e.verb ≡ Verb.Drain → looked_since_close s mine ≡ true) → StandsFor n s mine c.args.self.now → StandsFor n s (e ∷ mine) _) held.id
    (λ first was. record {
      few = was.few;
      inside = was.inside;
      replicas = was.replicas;
      id = was.id;
      owner = c.owner_after-self.ensures mine was.owner;
      closing = c.closing_after-self.ensures mine was.closing;
      named = c.named_after-self.ensures mine was.named;
      looked = c.since_close_after-looked.ensures.looked mine was.looked;
      drained = c.since_close_after-looked.ensures.drained mine was.drained;
      looked_first = in_order c.args.self.now.id e.by e.verb e.answer mine first was.looked_first;
      guests = c.take_at_guests.ensures mine was.owner was.closing was.guests;
    })
    looked held

pub returns-then-reads_asks : goal.returns-then-reads_asks
returns-then-reads_asks c n r mine looked held =
    let e = c.args.event.now in
    let self = c.args.self.now in
    subst (λ s. StandsFor n s mine self → StandsFor n s (e ∷ mine) (with_guests self c.take_at_guests.new.guests)) held.id
    (λ was. asks_change_guests n self.id e.by e.verb e.answer mine self c.take_at_guests.new.guests (sym c.reads_asks.ensures ∙ c.if-reads_asks.true) was (c.take_at_guests.ensures mine was.owner was.closing was.guests))
    held
