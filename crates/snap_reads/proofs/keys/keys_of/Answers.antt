use Rattle.std.proofs.Common.{◌≡◌, ◌∙◌, ◌++◌, ◌∷◌, List, ℕ, ap, drop, filter, not, ◌+◌, sym}
use Rattle.std.specs.Str.{bytes_eq}
use Rattle.kv_store.specs.Commands.{Request, key_of}
use Rattle.kv_store.specs.declared.command.OpParts.{OpParts}
use Rattle.snap_reads.specs.Keys.{keys_of}
use Rattle.snap_reads.proofs.Keying.{has, keys_of-drop, known_key, lacking, lacking_none, new_key}
use Rattle.snap_reads.proofs.keys.keys_of.Goals.{then-not-contains+in_ok-push, else-not-contains}
use Rattle.snap_reads.proofs.keys.keys_of.Goals as goal

pub loop-command-init : goal.loop-command-init
loop-command-init c = ap (λ (l : List (List ℕ)). l ++ lacking l (keys_of c.args.commands.now)) c.new-keys.ensures.items ∙ lacking_none (keys_of c.args.commands.now)

pub loop-command-preserved : goal.loop-command-preserved
loop-command-preserved c =
    let l = c.loop-command in
    let known = l.keys.items in
    let x = c.command-item.result in
    let key = c.parts-parts.result.key in
    let rest = keys_of (drop (l.command-index + 1) c.args.commands.now) in
    let is : key ≡ key_of x.op = ap (λ (parts : OpParts). parts.key) c.parts-parts.ensures ∙ ap (λ (command : Request). key_of command.op) c.command.view_is in
    let here : keys_of (drop l.command-index c.args.commands.now) ≡ key ∷ filter (λ other. not (bytes_eq key other)) rest =
    keys_of-drop c.args.commands.now l.command-index x c.loop-command-test.true c.command-item.is ∙ ap (λ k. k ∷ filter (λ other. not (bytes_eq k other)) rest) (sym is) in
    let before : known ++ lacking known (key ∷ filter (λ other. not (bytes_eq key other)) rest) ≡ keys_of c.args.commands.now = sym (ap (λ ks. known ++ lacking known ks) here) ∙ l.invariant in
    let told : has known key ≡ c.contains.result = ap (λ ks. has ks key) (sym c.as_slice.ensures.value) ∙ sym c.contains.ensures.value in
    elim c.if-not-contains.branch [
      | then-not-contains+in_ok-push w ↦
          ap (λ v. v.items ++ lacking v.items rest) w.keys-is
          ∙ (ap (λ ks. ks ++ lacking ks rest) w.in_ok-push.ensures.items
          ∙ (sym (new_key known rest key (told ∙ w.if-not-contains.true)) ∙ before))
      | else-not-contains w ↦
          ap (λ v. v.items ++ lacking v.items rest) w.keys-is
          ∙ (ap (λ ks. known ++ ks) (sym (known_key known rest key (told ∙ w.if-not-contains.false))) ∙ before)
    ]
