-- `into_parts` looks whether the pointer is null: if it isn't, both fields move with what they own.
use Rattle.std.proofs.Common.{◌≡◌, ◌⊎◌, inl, inr, Option, None, Some, lit<}
use mathlib.Core.Path.{refl, sym, subst, ap, ◌∙◌}
use mathlib.Core.List.{List, [], ◌∷◌, ◌++◌}
use seplogic.Ra.Ura.{Ura}
use mir.Raw.{raw as bare}
use mir.Val.{Val, vstruct, vcons, vnil, of_list}
use base.Logic.{SProp, ent, emp, guard, guard_i, id⊢}
use base.Fml.{ftrue, fsep}
use prog.Memory.{Memory}
use prog.Routine.{Routine}
use prog.Wp.{WpFn, Tables}
use types.Logic.{Logic, sem}
use contract.Monad.{Fun, fact_use}
use contract.Running.{tables, tables_of}
use sound.WpLaws.{WpFn-mono}
use types.Kit.{Item, ‵, raw, given, ◌⊛◌, ◌$◌, ◌∵◌, !, qed, by, at_ret, learn, move, drop, use0, use1, join, split, fsplit, fjoin, fpick, feq_l, suffices, rewrite, done}
use types.Match.{live}
use types.Part.{whole, sub, agg}
use types.Run.{stop, fld, lit, bin, no_more, and_then, of_opd, first, branches, exec, returns, enter}
use types.ByLocal.{alloc_all, pass_all, free_all, look_at, get, get_in, sets, sets_last, env}
use denote.Exit.{yes}
use denote.RattleType.{RattleType}
use denote.RawPtr.{Ptr, Testable, block_ptr, null_ptr, ptr_val, tests_null}
use denote.Signature.{type_at}
use denote.Steps.{nothing}
use denote.Triple.Spec.{triple_of}
use denote.Triple.Table.{entered}
use denote.Triple.Walked.{says, Stays, stay_dropped, walk_of, ends_at, Goes-dropped, walk_Meets}
use Rattle.core.proofs.alloc.Calls.{token, handle_tells}
use Rattle.core.proofs.alloc.Shapes.{after}
use Rattle.core.proofs.option.Made.{Some-of, none_of}
use Rattle.std.specs.Global.{Global}
use Rattle.std.proofs.GlobalToken.{dealloc_token-Testable}
use Rattle.std_alloc.proofs.BoxSteps.Form.{D, B, τ, word, box_typed}
use Rattle.std_alloc.proofs.BoxSteps.Steps.{box_out, box_in}
use Rattle.std_alloc.proofs.ResultValues.{and_tt}
use Rattle.std_heap.specs.contracts.Global as Heap
use Rattle.std_heap.specs.contracts.GlobalAllocator.TheImpl.{ghosts}
use Rattle.held_server.proofs.AsBox.{E, FromHandle as From}
use Rattle.held_server.specs.declared.holding.Held.{Held}
use Rattle.held_server.specs.contracts.holding.Held as held
use Rattle.held_server.specs.contracts.parts.Parts as Parts
use Rattle.held_server.specs.contracts.handle.Handle as Handle
use Rattle.held_server.specs.contracts.handle.Handle.into_parts as F
use Rattle.held_server.specs.contracts.handle.Handle.into_parts.Key.{name as #self}
use Rattle.held_server.proofs.handle.Handle.into_parts.Statement as stated
use Rattle.held_server.proofs.handle.Handle.into_parts.Code as code

-- what is there, if something is
sorted : {A : Type 0} (o : Option A) → (o ≡ None) ⊎ ((a : A) × (o ≡ Some a))
sorted None = inl refl
sorted (Some a) = inr (a, refl)

abbrev stayed : Stays (F.ended).signature.params (F.ended).kept
stayed = (stay_dropped From yes, tt)

abbrev To : RattleType
To = Parts.the_row held.the_row Heap.the_row ghosts

module _ {M : Type 1} {𝓤 : Ura M} (𝓛 : Logic 𝓤) (at_mem : Memory → SProp 𝓤) (run : Routine → Fun 𝓤) (𝓣 : Tables 𝓤 𝓛.H) where
  open 𝓛 use {H}

  -- the right to free a block tells that its pointer may be compared with null
  tested : (a : Global) (p : Ptr) → ent 𝓤 (sem 𝓛 (token E.al a (bare (τ E)) p)) (guard 𝓤 (Testable p) (sem 𝓛 (token E.al a (bare (τ E)) p)))
  tested a p = fact_use 𝓤 (Testable p) (dealloc_token-Testable 𝓛 a (bare (τ E)) p) (guard_i 𝓤 (Testable p) (sem 𝓛 (token E.al a (bare (τ E)) p)))

  abbrev Ghost : Type 0
  Ghost = (walk_of 𝓛 F.ended stayed (F.clauses 𝓛 at_mem run)).Ghost

  abbrev Walks : Ghost → Type 1
  Walks z = ent 𝓤 ((walk_of 𝓛 F.ended stayed (F.clauses 𝓛 at_mem run)).pre z) (WpFn 𝓤 H 𝓣.C 𝓣.Λ code.function (z.0.4.0 ++ []) ((walk_of 𝓛 F.ended stayed (F.clauses 𝓛 at_mem run)).post z))

  -- nothing is held, and the pointer is null
  at_none : (z : Ghost) → z.0.3.0.held ≡ None → Walks z
  at_none z is =
      let Post = (walk_of 𝓛 F.ended stayed (F.clauses 𝓛 at_mem run)).post z in
      let h = z.0.3.0 in
      let Out = type_at (F.signature).result tt in
      qed 𝓛 ((‵ ftrue ⊛ ‵ (fsep (Handle.the_row.own_val h z.0.4.0) ftrue)) ∷ raw (emp 𝓤) ∷ []) ∵ split ! $ drop ! $ fsplit ! $
      rewrite ! 0 (λ (held : Option Held). ‵ (Handle.the_row.own_val (record { at = h.at; alloc = h.alloc; held = held }) z.0.4.0)) is refl $
      fsplit ! $ fpick ! (λ vss. fsplit ! $ feq_l ! (λ eu. fsplit ! $ feq_l ! (λ ep. fsplit ! $ handle_tells E.al ! h.alloc vss.1.0 (λ hw eh fw. move ! (1 ∷ []) $ drop ! $ move ! (1 ∷ []) $ feq_l ! (λ en. drop ! $
      let w : Val = vstruct (vcons (ptr_val null_ptr) (vcons hw vnil)) in
      let words : z.0.4.0 ≡ w ∷ [] = eu ∙ (λ j. vstruct (of_list ((ep ∙ ap (λ (p : Ptr). ptr_val p ∷ []) en) j ++ (eh j ++ []))) ∷ []) in
      let u : Val = live 0 vnil in
      let Γ : List (Item 𝓤) = ‵ ftrue ∷ [] in
      move ! (1 ∷ []) $ drop ! $
      by ! (subst (λ (us : List Val). ent 𝓤 (types.Kit.⋆ 𝓛 Γ) (WpFn 𝓤 H 𝓣.C 𝓣.Λ code.function (us ++ []) Post)) (sym words)
      (qed 𝓛 Γ ∵ enter ! 𝓣.C 𝓣.Λ code.function (w ∷ []) _ $ alloc_all ! (λ ls. pass_all ! refl ((and_tt _ fw.0, (record { fits = lit< tt }, (fw.1, tt))), tt) $
      let Ev = env code.function.locals ls in
      sets ! (of_opd ! (get_in ! (fld ! refl (stop !)) (sub ! 0 refl (whole !)))) refl (tt, record { fits = lit< tt }) $ sets ! (of_opd ! (get_in ! (fld ! refl (stop !)) (sub ! 1 refl (whole !)))) refl fw $
      sets ! (bin ! (get ! refl) (lit ! tt) tt) refl (tt, tt) $ first ! $ branches ! (get ! refl)
      (λ _. sets_last ! (agg ! (and_then ! (lit ! tt) (no_more !))) refl (tt, (record { fits = lit< tt }, tt)) $ exec ! 𝓣.C 𝓣.Λ Ev (after 4 code.function.body) (at_ret Ev Post) $
      sets ! (of_opd ! (get ! refl)) refl (tt, (record { fits = lit< tt }, tt)) $
      use0 𝓛 (‵ (Out.own_val None (u ∷ []))) (none_of 𝓛 To) $ move ! (1 ∷ []) $ drop ! $ returns ! (look_at ! 0 refl) $ free_all ! refl $
      suffices ! _ (ends_at 𝓛 F.ended stayed (F.clauses 𝓛 at_mem run) z u None (tt, tt) (tt, tt)) $ says ! is $
      nothing ! $ nothing ! $ fjoin ! $ join ! $ nothing ! $ join ! $ done !)
      (λ wrong. absurd wrong)))))))))

  -- something is held
  at_some : (z : Ghost) (x : Held) → z.0.3.0.held ≡ Some x → Walks z
  at_some z x is =
      let Post = (walk_of 𝓛 F.ended stayed (F.clauses 𝓛 at_mem run)).post z in
      let h = z.0.3.0 in
      let Out = type_at (F.signature).result tt in
      let v : D E = record { ptr = h.at; alloc = h.alloc; value = x } in
      let made : To.Denot = record { at = h.at; alloc = h.alloc; value = x } in
      qed 𝓛 ((‵ ftrue ⊛ ‵ (fsep (Handle.the_row.own_val h z.0.4.0) ftrue)) ∷ raw (emp 𝓤) ∷ []) ∵ split ! $ drop ! $ fsplit ! $
      rewrite ! 0 (λ (held : Option Held). ‵ (Handle.the_row.own_val (record { at = h.at; alloc = h.alloc; held = held }) z.0.4.0)) is refl $ use1 𝓛 (‵ ((B E).own_val v z.0.4.0)) (id⊢ 𝓤 _) $
      box_out E ! v z.0.4.0 (λ b o hv e ws fa.
      -- [the value; the right to free; the handle]
      move ! (1 ∷ []) $ use1 𝓛 (given (Testable (block_ptr b o)) (‵ (token E.al h.alloc (bare (τ E)) (block_ptr b o)))) (tested h.alloc (block_ptr b o)) $ learn ! (λ t. move ! (1 ∷ []) $
      box_in E ! v b o x e refl $ use1 𝓛 (‵ (To.own_val made (word E hv b o ∷ []))) (id⊢ 𝓤 _) $ move ! (1 ∷ 2 ∷ []) $ drop ! $ drop ! $
      let w = word E hv b o in
      let u : Val = live 1 (vcons w vnil) in
      let typed = box_typed E hv b o fa in
      let Γ : List (Item 𝓤) = ‵ (To.own_val made (w ∷ [])) ∷ [] in
      by ! (subst (λ (us : List Val). ent 𝓤 (types.Kit.⋆ 𝓛 Γ) (WpFn 𝓤 H 𝓣.C 𝓣.Λ code.function (us ++ []) Post)) (sym ws)
      (qed 𝓛 Γ ∵ enter ! 𝓣.C 𝓣.Λ code.function (w ∷ []) _ $ alloc_all ! (λ ls. pass_all ! refl (typed, tt) $
      let Ev = env code.function.locals ls in
      sets ! (of_opd ! (get_in ! (fld ! refl (stop !)) (sub ! 0 refl (whole !)))) refl (tt, tt) $ sets ! (of_opd ! (get_in ! (fld ! refl (stop !)) (sub ! 1 refl (whole !)))) refl fa $
      sets ! (bin ! (get ! refl) (lit ! tt) (tests_null (block_ptr b o) t)) refl (tt, tt) $ first ! $ branches ! (get ! refl) (λ wrong. absurd wrong) (λ _.
      sets ! (of_opd ! (get ! refl)) refl (tt, tt) $ sets ! (agg ! (and_then ! (get ! refl) (and_then ! (get ! refl) (no_more !)))) refl typed $
      sets_last ! (agg ! (and_then ! (lit ! tt) (and_then ! (get ! refl) (no_more !)))) refl (and_tt _ typed.0, (record { fits = lit< tt }, (typed.1, tt))) $
      exec ! 𝓣.C 𝓣.Λ Ev (after 4 code.function.body) (at_ret Ev Post) $ sets ! (of_opd ! (get ! refl)) refl (and_tt _ typed.0, (record { fits = lit< tt }, (typed.1, tt))) $
      use1 𝓛 (‵ (Out.own_val (Some made) (u ∷ []))) (Some-of 𝓛 To made w) $ returns ! (look_at ! 0 refl) $ free_all ! refl $
      suffices ! _ (ends_at 𝓛 F.ended stayed (F.clauses 𝓛 at_mem run) z u (Some made) (tt, tt) (tt, tt)) $ says ! is $
      nothing ! $ nothing ! $ fjoin ! $ join ! $ nothing ! $ join ! $ done !))))))

  by_sort : (z : Ghost) → (z.0.3.0.held ≡ None) ⊎ ((x : Held) × (z.0.3.0.held ≡ Some x)) → Walks z
  by_sort z (inl is) = at_none z is
  by_sort z (inr (x, is)) = at_some z x is

  walk : (z : Ghost) → Walks z
  walk z = by_sort z (sorted z.0.3.0.held)

pub into_parts_spec : {M : Type 1} → stated.statement M
unfolding tables_of
into_parts_spec 𝓤 𝓛 𝓜 𝓡 wired =
    let 𝓣 : Tables 𝓤 𝓛.H = tables_of 𝓤 𝓛.H 𝓜 (tables 𝓤 𝓛.H 𝓜 𝓡 𝓡.env) in
    entered 𝓤 𝓛.H (triple_of 𝓛 F.signature (F.spec 𝓛 𝓜.mem 𝓡.returns)) 𝓣.C 𝓣.Λ #self code.function (code.unfolded 𝓤 𝓛.H 𝓜 𝓡 wired)
    (walk_Meets 𝓛 F.ended stayed (Goes-dropped 𝓛 0 From yes (λ κs x f. refl), tt) (F.clauses 𝓛 𝓜.mem 𝓡.returns) (WpFn 𝓤 𝓛.H 𝓣.C 𝓣.Λ code.function) (WpFn-mono 𝓤 𝓛.H 𝓛.laws 𝓣 code.function)
    (walk 𝓛 𝓜.mem 𝓡.returns 𝓣))
