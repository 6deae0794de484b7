use Rattle.mu_leadership.proofs.leadership.Leadership.take_other.Goals as goal

pub returns : goal.returns
returns c mine other held = record {
  replica = held.replica;
  begun = c.begun_after-self.ensures mine held.begun;
  asked = c.asked_after-self.ensures mine held.asked;
  over = c.over_after-self.ensures mine other held;
  number = c.number_after-self.ensures mine held.number;
  read = c.greatest_minimum_after-self.ensures mine held.read;
  put = c.greatest_number_after-self.ensures mine held.put;
  notes = c.take_at_regions.ensures mine other held.notes;
}
