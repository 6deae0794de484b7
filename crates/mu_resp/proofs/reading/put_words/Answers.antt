use Rattle.std.proofs.Common.{◌≡◌, ◌+◌, ◌-◌, ◌++◌, ◌∷◌, [], Bor, List, ℕ, map, take, slice_set, sym, ap, ◌∙◌, arith}
use Rattle.std.proofs.lemmas.Grind.{common_steps}
use Rattle.mu_resp.specs.Readings.{bulks_at, onto}
use Rattle.mu_resp.proofs.WordByWord.{bulks-next}
use Rattle.mu_resp.proofs.reading.put_words.Goals as goal

pub loop-k-preserved : goal.loop-k-preserved
loop-k-preserved c =
    let i = c.loop-k.invariant in
    let k = c.loop-k.k in
    let word = c.in_ok-word.word in
    let more = c.in_ok-word.more.now in
    let read = map (λ (word : Bor (List ℕ)). word.now) (take k c.loop-k.items) in
    let longer : map (λ (word : Bor (List ℕ)). word.now) (take (k + 1) (slice_set c.loop-k.items k word)) ≡ read ++ word.now ∷ [] = grind (arith, common_steps, i) in
    record {
      room = grind (arith, common_steps, i);
      read =
          ap (λ words. onto words (bulks_at (c.args.count - (k + 1)) more)) longer
          ∙ sym (bulks-next c.args.count k read c.loop-k.rest.now word.now more c.loop-k-test.true c.in_ok-word.ensures)
          ∙ i.read;
    }
