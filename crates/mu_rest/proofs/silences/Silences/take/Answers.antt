use Rattle.mu_rest.proofs.silences.Silences.take.Goals as goal

pub returns : goal.returns
returns c signs stands = record {
  reads = c.silence_with-self.ensures.reads signs stands.reads;
  shown = c.silence_with-self.ensures.shown signs stands.reads;
}
