use Rattle.std.proofs.Common.{◌∙◌, sym, rules, ◌≡◌, false}
use Rattle.mu_grant.proofs.Others.{not_noted, others_kept}
use Rattle.mu_grant.proofs.grants.Grants.note.Goals as goal

pub returns : goal.returns
returns c n r mine looked held = c.note_own.ensures n r mine looked held

pub returns-then-not-is_of_host : goal.returns-then-not-is_of_host
returns-then-not-is_of_host c n r mine looked held =
    let e = c.args.event.now in
    let off : c.is_of_host.result ≡ false = search rules in
    others_kept n r mine c.args.self.now e (not_noted e.verb e.answer (sym c.is_of_host.ensures ∙ off)) held
