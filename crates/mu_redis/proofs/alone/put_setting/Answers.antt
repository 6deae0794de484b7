use Rattle.std.proofs.Common.{◌≡◌, ◌++◌, refl, sym, subst, arith}
use Rattle.std.specs.Prelude.{codes, OnOk}
use Rattle.std.proofs.lemmas.Slice.Eq.{text_from_reads}
use Rattle.mu_redis.specs.Alone.{setting_is, setting_told}
use Rattle.mu_redis.proofs.alone.put_setting.Goals as goal

pub returns-in-appendonly : goal.returns-in-appendonly
returns-in-appendonly c =
    let name = c.args.name.now in
    let is = text_from_reads name (codes "appendonly") (omega arith) (omega arith, (omega arith, (omega arith, (omega arith, (omega arith, (omega arith, (omega arith, (omega arith, (omega arith, (omega arith, tt)))))))))) in
    let told : setting_is name (codes "no") ≡ setting_told name = subst (λ n. setting_is n (codes "no") ≡ setting_told n) (sym is) refl in
    subst (λ t. OnOk c.put_setting_is-in-appendonly.result (c.put_setting_is-in-appendonly.new.out.items ≡ c.args.out.now.items ++ t)) told c.put_setting_is-in-appendonly.ensures
