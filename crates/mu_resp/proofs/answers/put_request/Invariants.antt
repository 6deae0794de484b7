use Rattle.std.proofs.Common.{◌≡◌, ◌++◌, map, take, length}
use Rattle.std.specs.List.{flat_map}
use Rattle.mu_resp.specs.Requests.{bulk, header}
use Rattle.mu_resp.specs.declared.TheConstants.{STAR}
use Rattle.mu_resp.proofs.answers.put_request.Given as goal

abbrev pub invariant-loop-word : goal.invariant-loop-word
invariant-loop-word l = l.out.items ≡ (l.fn.out.items ++ header STAR (length l.words)) ++ flat_map bulk (map (λ word. word.now) (take l.word-index l.words))
