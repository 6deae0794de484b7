use Rattle.std.proofs.Common.{◌≡◌, ◌++◌, false, subst, sym}
use Rattle.std.specs.Prelude.{OnOk}
use Rattle.mu_picture.specs.Words.{missed_words}
use Rattle.mu_picture.proofs.words.push_missed.Goals as goal

pub returns : goal.returns
returns c =
    let call = c.push_parts in
    let what = c.args.what.now in
    subst (λ t. OnOk call.result (call.new.sheet ≡ c.args.sheet.now ++ missed_words t what c.args.number c.args.region)) (sym c.if-landed.false)
    (subst (λ p. OnOk call.result (call.new.sheet ≡ c.args.sheet.now ++ missed_words false what c.args.number p)) c.from.ensures call.ensures)
