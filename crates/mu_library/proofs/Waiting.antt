-- Rounds one after the other, and what is told after them.
use Rattle.std.proofs.Common.{◌≡◌, ◌∙◌, ℕ, suc, ◌+◌, List, ◌∷◌, None, Some, ap, arith, inl, map, refl}
use Rattle.std.specs.Prelude.{Err, IfErr, IfSome, Ok}
use Rattle.std.specs.declared.option.Option.{Option}
use Rattle.std.specs.declared.result.Result.{Result}
use Rattle.kv_store.specs.declared.store.Reply.{Reply}
use Rattle.mu_engine.specs.Live.{after_round}
use Rattle.mu_engine.proofs.Going.{goes_still}
use Rattle.mu_eras.specs.Eras.{Era, ErasGoFurther, IsReplyTo}
use Rattle.mu_eras.specs.Lasting.{HoldsEras, Lasts}
use Rattle.mu_eras.specs.Telling.{HasNoReply}
use Rattle.mu_eras.specs.declared.eras.Eras.{Eras}
use Rattle.mu_library.specs.Engines.{TellsRow, era_now, live_of}
use Rattle.mu_library.specs.Waiting.{PlaysRounds, after_rounds}

-- no round
pub plays_none : (e : Eras) → PlaysRounds 0 e e
plays_none e = record {
  holds = refl;
  lasts = λ past held. record { later = past; holds = held; goes = inl (refl, goes_still (live_of e).job (live_of e).events); same = refl };
}

-- one more
pub plays_more : (n : ℕ) (e m d : Eras) → ErasGoFurther → PlaysRounds n e m → (live_of d).holds ≡ map after_round (live_of m).holds → ((past : List Era) → HoldsEras past m.succession → Lasts past m.succession d.succession) → PlaysRounds (n + 1) e d
plays_more n e m d further plays held lasts = record {
  holds = held ∙ ap (map after_round) plays.holds ∙ ap (λ k. after_rounds k (live_of e).holds) next;
  lasts = λ past is.
      let one = plays.lasts past is in
      let two = lasts one.later one.holds in
      record {
        later = two.later;
        holds = two.holds;
        goes = further past (era_now e) one.later (era_now m) two.later (era_now d) one.goes two.goes;
        same = two.same ∙ one.same;
      };
}
  where
    next : suc n ≡ n + 1
    next = omega arith

-- what is told of a row
pub tells_row : (row : ℕ) (told : Option Reply) (e : Eras) → ((past : List Era) → HoldsEras past e.succession → told ≡ None → HasNoReply past (era_now e) row)
    → ((past : List Era) → HoldsEras past e.succession → IfSome told (IsReplyTo (era_now e ∷ past) row)) → TellsRow row told e
tells_row row None e untold told = λ past held. untold past held refl
tells_row row (Some reply) e untold told = told

-- what holds anyway holds if there was an error
pub if_err : {A B : Type 0} (o : Result A B) (T : Type 0) → T → IfErr o (λ _. T)
if_err (Ok x) T t = tt
if_err (Err x) T t = t
