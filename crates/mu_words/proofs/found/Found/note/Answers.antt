use Rattle.std.proofs.Common.{sym, subst}
use Rattle.mu_words.specs.Founds.{Notes}
use Rattle.mu_words.proofs.found.Found.note.Goals as goal

pub returns-in-Ask : goal.returns-in-Ask
returns-in-Ask c = subst (λ v. Notes c.args.id v c.args.answer.now c.args.word c.args.self.now c.note_ask.new.self) (sym c.in-Ask.is) (c.note_ask.ensures c.args.id c.args.answer.now c.args.word)

pub returns-in-Fence : goal.returns-in-Fence
returns-in-Fence c = subst (λ v. Notes c.args.id v c.args.answer.now c.args.word c.args.self.now c.note_fence.new.self) (sym c.in-Fence.is) (c.note_fence.ensures c.args.word)

pub returns-in-Min : goal.returns-in-Min
returns-in-Min c = subst (λ v. Notes c.args.id v c.args.answer.now c.args.word c.args.self.now c.note_min.new.self) (sym c.in-Min.is) (c.note_min.ensures c.args.id c.args.answer.now)

pub returns-in-Enter : goal.returns-in-Enter
returns-in-Enter c = subst (λ v. Notes c.args.id v c.args.answer.now c.args.word c.args.self.now c.note_enter.new.self) (sym c.in-Enter.is) (c.note_enter.ensures c.args.id c.args.word)

pub returns-in-PutMin : goal.returns-in-PutMin
returns-in-PutMin c = subst (λ v. Notes c.args.id v c.args.answer.now c.args.word c.args.self.now c.note_put_min.new.self) (sym c.in-PutMin.is) (c.note_put_min.ensures c.args.id c.args.word)

pub returns-in-Look : goal.returns-in-Look
returns-in-Look c = subst (λ v. Notes c.args.id v c.args.answer.now c.args.word c.args.self.now c.note_look.new.self) (sym c.in-Look.is) (c.note_look.ensures c.args.id c.args.answer.now)

pub returns-in-Close : goal.returns-in-Close
returns-in-Close c = subst (λ v. Notes c.args.id v c.args.answer.now c.args.word c.args.self.now c.note_close.new.self) (sym c.in-Close.is) (c.note_close.ensures c.args.id c.args.word)
