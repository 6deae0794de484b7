use Rattle.std.proofs.Common.{◌≡◌, ◌++◌, subst, sym}
use Rattle.std.specs.Prelude.{OnOk, codes}
use Rattle.mu_picture.specs.Words.{done_words, missed_words}
use Rattle.mu_picture.proofs.words.push_done_words.Goals as goal

pub returns-in-PutMin : goal.returns-in-PutMin
returns-in-PutMin c =
    let call = c.push_missed in
    let put = c.in-PutMin in
    let said = subst (λ n. OnOk call.result (call.new.sheet ≡ c.args.sheet.now ++ missed_words put.landed (codes " with number ") n put.p)) c.from.ensures call.ensures in
    subst (λ d. OnOk call.result (call.new.sheet ≡ c.args.sheet.now ++ done_words c.args.job.now d)) (sym put.is) said

pub returns-in-Deposed : goal.returns-in-Deposed
returns-in-Deposed c =
    let call = c.push_loss-in-Deposed in
    subst (λ d. OnOk call.result (call.new.sheet ≡ c.args.sheet.now ++ done_words c.args.job.now d)) (sym c.in-Deposed.is) call.ensures

pub returns-in-Resign : goal.returns-in-Resign
returns-in-Resign c =
    let call = c.push_loss-in-Resign in
    subst (λ d. OnOk call.result (call.new.sheet ≡ c.args.sheet.now ++ done_words c.args.job.now d)) (sym c.in-Resign.is) call.ensures

pub returns-in-Trusts : goal.returns-in-Trusts
returns-in-Trusts c =
    let call = c.push_held-in-Trusts in
    subst (λ d. OnOk call.result (call.new.sheet ≡ c.args.sheet.now ++ done_words c.args.job.now d)) (sym c.in-Trusts.is) call.ensures
