-- Late followers that join.
use Rattle.std.proofs.Common.{Bool, List, None, Some, ap, arith, false, get_or, inl, inr, is_some, refl, subst, sym, true, true≢false, ℕ, ◌&&◌, ◌<◌, ◌==◌, ◌||◌, ◌∙◌, ◌∷◌, ◌≡◌, ◌≢◌, ◌≤◌, ◌⊎◌}
use Rattle.std.specs.Prelude.{nat_le, nat_lt, not}
use Rattle.std.specs.declared.option.Option.{Option}
use Rattle.std.proofs.lemmas.Bool.{and_from, and_parts, cases_eq, le-leb, le-ltb, leb-true, ne_eqb}
use Rattle.mu_model.specs.Parts.{IsPossible}
use Rattle.mu_agree.specs.Agreement.{fuo_under}
use Rattle.mu_agree.proofs.Possible.{part_grants_move_law}
use Rattle.mu_model.specs.declared.config.Config.{Config}
use Rattle.mu_model.specs.declared.event.Answer.{Answer}
use Rattle.mu_model.specs.declared.event.Event.{Event}
use Rattle.mu_model.specs.declared.event.Fence.{Fence}
use Rattle.mu_model.specs.declared.event.Target.{Target}
use Rattle.mu_model.specs.declared.event.Verb.{Verb}
use Rattle.mu_model.specs.Bounds.{is_at_most}
use Rattle.mu_model.specs.Histories.{count_below, earlier_or, has, event_by}
use Rattle.mu_model.specs.Leaderships.{grant_at_joining, is_above, is_changed, is_member, is_over, leadership, majority_of, noted_grant, proposal_number}
use Rattle.mu_model.proofs.Basics.{none_some, same_number, same_some}
use Rattle.mu_agree.proofs.Counting.{count_more}
use Rattle.mu_lead.specs.declared.place.Then.{Then}
use Rattle.mu_lead.specs.Leading.{AtLateEnter, AtLateFuo, AtLateMin, AtLatePut, AtWiden, IsRaised, IsRead, Late, Leads, Level, SawPast, end_of, is_put_at}
use Rattle.mu_lead.proofs.Copying.{fuo_read_now, fuo_read_on, none_put, stranger_clear}
use Rattle.mu_lead.proofs.Keeping.{fuo_event, leads_kept, raised_other}
use Rattle.mu_lead.proofs.Puts.{member_within}
use Rattle.mu_lead.proofs.Numbering.{held_joined, joining_other, landed_min, member_now, member_still, read_now}

-- the event of a fence that was read
abbrev pub fence_event : ℕ → ℕ → Fence → Event
fence_event r p f = event_by r (Verb.Fence p) (Answer.Seen f)

pub is_quiet : (o : Option (Option ℕ)) (f : Fence) (by over : Bool) → is_some o ≡ false → over ≡ false → (by && is_changed o f || over) ≡ false
is_quiet None f true over none on = on
is_quiet None f false over none on = on
is_quiet (Some g) f by over none on = absurd (true≢false none)

-- the fence of a region leaves what is noted of the others
noted_still : (r p q : ℕ) (f : Fence) (mine : List Event) → p ≢ q → noted_grant r q (fence_event r p f ∷ mine) ≡ noted_grant r q mine
noted_still r p q f mine other = go (ne_eqb p q other)
  where
    go : (p == q) ≡ false → noted_grant r q (fence_event r p f ∷ mine) ≡ noted_grant r q mine
    go other = rw (same_number r, other) refl

stranger_other : (r p q : ℕ) (mine : List Event) → is_member r p mine ≡ false → is_member r q mine ≡ true → p ≢ q
stranger_other r p q mine stranger member same = true≢false (sym member ∙ subst (λ x. is_member r x mine ≡ false) same stranger)

-- the fence of a region that is no member ends nothing
leads_fenced : (c : Config) (r b p : ℕ) (f : Fence) (mine : List Event) → is_member r p mine ≡ false → Leads c r b mine → Leads c r b (fence_event r p f ∷ mine)
leads_fenced c r b p f mine stranger l = record {
  begun = l.begun;
  goes_on = is_quiet (grant_at_joining r p mine) f (r == r) (is_over r mine) stranger l.goes_on;
  numbered = l.numbered;
  carried = l.carried;
  held = λ q region member. (let h = l.held q region member in record { grant = h.grant; noted = noted_still r p q f mine (stranger_other r p q mine stranger member) ∙ h.noted; joined = h.joined });
  unput = l.unput;
}

pub level_fenced : (c : Config) (r b p : ℕ) (f : Fence) (mine : List Event) (up : List ℕ) (reach : List (Option ℕ)) → is_member r p mine ≡ false → Level c r b mine up reach → Level c r b (fence_event r p f ∷ mine) up reach
level_fenced c r b p f mine up reach stranger l = record {
  leads = leads_fenced c r b p f mine stranger l.leads;
  have = l.have;
  raised = λ k low member. (let old = l.raised k low member in (old.0, λ g noted. old.1 g (sym (noted_still r p k f mine (stranger_other r p k mine stranger member)) ∙ noted)));
  few = l.few;
}

-- the late follower names the leader
pub late_noted : (c : Config) (r b p : ℕ) (f : Fence) (mine : List Event) (up : List ℕ) (reach : List (Option ℕ)) → Late c r b mine up reach p → is_some (noted_grant r p (fence_event r p f ∷ mine)) ≡ true → AtLateMin c r b (fence_event r p f ∷ mine) up reach p
late_noted c r b p f mine up reach at noted = record {
  late = record { region = at.region; stranger = at.stranger; level = level_fenced c r b p f mine up reach at.stranger at.level };
  granted = noted;
}

-- the event of a minimum that was read
abbrev pub min_event : ℕ → ℕ → ℕ → Event
min_event r p m = event_by r (Verb.Min p) (Answer.Number m)

not_above : (m b : ℕ) (o : Option ℕ) (by over : Bool) → o ≡ Some b → m ≤ b → over ≡ false → (by && is_above o m || over) ≡ false
not_above m b None by over is low on = absurd (none_some b is)
not_above m b (Some x) by over is low on = go by (le-ltb x m (let same = same_some x b is in omega (arith, same, low)))
  where
    go : (t : Bool) → nat_lt x m ≡ false → (t && nat_lt x m || over) ≡ false
    go true none = rw none on
    go false none = on

leads_told : (c : Config) (r b p m : ℕ) (mine : List Event) → m ≤ b → Leads c r b mine → Leads c r b (min_event r p m ∷ mine)
leads_told c r b p m mine low l = record {
  begun = l.begun;
  goes_on = not_above m b (proposal_number r mine) (r == r) (is_over r mine) l.numbered low l.goes_on;
  numbered = l.numbered;
  carried = l.carried;
  held = λ q region member. (let h = l.held q region member in record { grant = h.grant; noted = h.noted; joined = h.joined });
  unput = l.unput;
}

-- the late follower holds no higher minimum
pub late_told : (c : Config) (r b p m : ℕ) (mine : List Event) (up : List ℕ) (reach : List (Option ℕ)) → m ≤ b → AtLateMin c r b mine up reach p → AtLateFuo c r b (min_event r p m ∷ mine) up reach p
late_told c r b p m mine up reach low at =
    let l = at.late.level in
    record {
      late = record { region = at.late.region; stranger = at.late.stranger; level = record { leads = leads_told c r b p m mine low l.leads; have = l.have; raised = l.raised; few = l.few } };
      granted = at.granted;
      told = read_now r p m mine at.granted;
      low = rw (same_number r, same_number p) low;
    }

level_read : (c : Config) (r b p u : ℕ) (mine : List Event) (up up' : List ℕ) (reach reach' : List (Option ℕ)) → is_member r p mine ≡ false → ((k : ℕ) → k ≢ p → get_or up' k 0 ≡ get_or up k 0)
    → ((k : ℕ) → k ≢ p → get_or reach' k None ≡ get_or reach k None) → Level c r b mine up reach → Level c r b (fuo_event r p u ∷ mine) up' reach'
level_read c r b p u mine up up' reach reach' stranger ups reaches l = record {
  leads = leads_kept c r b r (Verb.Fuo p) (Answer.Number u) mine refl l.leads;
  have = λ k region member. subst (λ x. end_of c r mine ≤ x) (sym (ups k (other k member))) (l.have k region member);
  raised = λ k region member. (let old = l.raised k region member in (
    raised_other p k up up' reach reach' (other k member) ups reaches old.0,
    subst (λ x. IsRead r (fuo_event r p u ∷ mine) k x) (sym (ups k (other k member))) (fuo_read_on r p k u (get_or up k 0) mine old.1),
  ));
  few = λ k region member. subst (λ x. x ≤ end_of c r mine) (sym (ups k (other k member))) (l.few k region member);
}
  where
    other : (k : ℕ) → is_member r k mine ≡ true → k ≢ p
    other k member same = true≢false (sym member ∙ subst (λ x. is_member r x mine ≡ false) (sym same) stranger)

-- the late follower is left for a later time
pub late_left : (c : Config) (r b p u : ℕ) (mine : List Event) (up : List ℕ) (reach reach' : List (Option ℕ)) → ((k : ℕ) → k ≢ p → get_or reach' k None ≡ get_or reach k None) → AtLateFuo c r b mine up reach p → Level c r b (fuo_event r p u ∷ mine) up reach'
late_left c r b p u mine up reach reach' reaches at = level_read c r b p u mine up up reach reach' at.late.stranger (λ k differs. refl) reaches at.late.level

-- its FUO is no higher than what is known
pub late_read : (c : Config) (r b p u : ℕ) (mine : List Event) (up up' : List ℕ) (reach reach' : List (Option ℕ)) → ((k : ℕ) → k ≢ p → get_or up' k 0 ≡ get_or up k 0)
    → ((k : ℕ) → k ≢ p → get_or reach' k None ≡ get_or reach k None) → get_or up' p 0 ≡ u → u ≤ end_of c r mine → IsRaised up' reach' p → AtLateFuo c r b mine up reach p → AtLateEnter c r b (fuo_event r p u ∷ mine) up' reach' p
late_read c r b p u mine up up' reach reach' ups reaches here low raised at = record {
  told = record {
    late = record { region = at.late.region; stranger = at.late.stranger; level = level_read c r b p u mine up up' reach reach' at.late.stranger ups reaches at.late.level };
    granted = at.granted;
    told = at.told;
    low = at.low;
  };
  short = omega (arith, here, low);
  raised = raised;
  read = fuo_read_now r p u (get_or up' p 0) mine (omega (arith, here));
  late = rw (same_number r, at.late.level.leads.numbered, at.late.stranger) refl;
}

-- the event of an `Enter` for the minimum
abbrev pub enter_min_event : ℕ → ℕ → Event
enter_min_event r p = event_by r (Verb.Enter p Target.Min) Answer.Entered

pub late_entered : (c : Config) (r b p : ℕ) (mine : List Event) (up : List ℕ) (reach : List (Option ℕ)) → AtLateEnter c r b mine up reach p → AtLatePut c r b (enter_min_event r p ∷ mine) up reach p
late_entered c r b p mine up reach at =
    let t = at.told in
    let l = t.late.level in
    let leads = l.leads in
    record {
      entering = record {
        told = record {
          late = record {
            region = t.late.region;
            stranger = t.late.stranger;
            level = record {
              leads = record {
                begun = leads.begun;
                goes_on = leads.goes_on;
                numbered = leads.numbered;
                carried = leads.carried;
                held = λ q region member. (let h = leads.held q region member in record { grant = h.grant; noted = h.noted; joined = h.joined });
                unput = leads.unput;
              };
              have = l.have;
              raised = l.raised;
              few = l.few;
            };
          };
          granted = t.granted;
          told = t.told;
          low = t.low;
        };
        short = at.short;
        raised = at.raised;
        read = at.read;
        late = at.late;
      };
      entered = rw (same_number r, same_number p) refl;
      under = rw (same_number r, same_number p) refl;
    }

first_stays : (b : ℕ) (o : Option ℕ) → o ≡ Some b → earlier_or (Some b) o ≡ Some b
first_stays b None is = refl
first_stays b (Some x) is = is

pub leads_joined : (c : Config) (r b p : ℕ) (mine : List Event) → p < c.replicas → is_some (noted_grant r p mine) ≡ true → Leads c r b mine → Leads c r b (landed_min r p b ∷ mine)
leads_joined c r b p mine region noted l =
    let parts = and_parts (is_member r r mine) (nat_le (majority_of c.replicas) (count_below c.replicas (λ q. is_member r q mine))) l.carried in
    let more = count_more c.replicas (λ q. is_member r q mine) (λ q. is_member r q (landed_min r p b ∷ mine)) (λ q low member. member_still r p q b mine member) in
    let many = leb-true (majority_of c.replicas) (count_below c.replicas (λ q. is_member r q mine)) parts.1 in
    record {
      begun = l.begun;
      goes_on = l.goes_on;
      numbered = rw (same_number r) (first_stays b (proposal_number r mine) l.numbered);
      carried = and_from (is_member r r (landed_min r p b ∷ mine)) (nat_le (majority_of c.replicas) (count_below c.replicas (λ q. is_member r q (landed_min r p b ∷ mine)))) (member_still r p r b mine parts.0)
          (le-leb (majority_of c.replicas) (count_below c.replicas (λ q. is_member r q (landed_min r p b ∷ mine))) (omega (arith, many, more)));
      held = held_joined c r p b mine region noted l.held;
      unput = l.unput;
    }

was_member : (r p q b : ℕ) (mine : List Event) → q ≢ p → is_member r q (landed_min r p b ∷ mine) ≡ true → is_member r q mine ≡ true
was_member r p q b mine other member = sym (ap is_some (joining_other r p q b mine (λ same. other (sym same)))) ∙ member

-- the late follower joined, and is behind
pub late_behind : (c : Config) (r b p : ℕ) (mine : List Event) (up : List ℕ) (reach : List (Option ℕ)) → IsPossible c r mine → AtLatePut c r b mine up reach p → get_or up p 0 < end_of c r mine → AtWiden c r b (landed_min r p b ∷ mine) up reach p Then.Joined
late_behind c r b p mine up reach possible at lacks =
    let t = at.entering.told in
    let l = t.late.level in
    record {
      behind = record {
        region = t.late.region;
        member = member_now r p b mine;
        leads = leads_joined c r b p mine t.late.region t.granted l.leads;
        raised = λ k region other member. (l.raised k region (was_member r p k b mine other member)).0;
        read = λ k region member. elim (cases_eq k p) [
          | inl same ↦ subst (λ x. IsRead r mine x (get_or up x 0)) (sym same) at.entering.read
          | inr other ↦ (l.raised k region (was_member r p k b mine other member)).1
        ];
        clear = λ q j member high. clear_now q j high (cases_eq q p) member;
        have = λ k region other member done. l.have k region (was_member r p k b mine other member);
        few = λ k region member. (
          elim (cases_eq k p) [
            | inl same ↦ subst (λ x. get_or up x 0 ≤ end_of c r mine) (sym same) at.entering.short
            | inr other ↦ l.few k region (was_member r p k b mine other member)
          ],
          λ left. absurd left,
        );
        late = λ joined. at.entering.late;
      };
      lacks = lacks;
    }
  where
    clear_now : (q j : ℕ) → get_or up q 0 ≤ j → (q ≡ p) ⊎ (q ≢ p) → is_member r q (landed_min r p b ∷ mine) ≡ true → has (λ e. is_put_at r q j e.by e.verb) (leadership r mine) ≡ false
    clear_now q j high (inl same) member = stranger_clear c r q j mine possible (subst (λ x. is_member r x mine ≡ false) (sym same) at.entering.told.late.stranger)
    clear_now q j high (inr other) member =
        let l = at.entering.told.late.level in
        let was = was_member r p q b mine other member in
        none_put r q j (leadership r mine) (l.leads.unput j (let all = l.have q (member_within c r q mine possible was) was in omega (arith, all, high)))

-- the late follower joined, and has what is known
pub late_level : (c : Config) (r b p : ℕ) (mine : List Event) (up : List ℕ) (reach : List (Option ℕ)) → AtLatePut c r b mine up reach p → end_of c r mine ≤ get_or up p 0 → Level c r b (landed_min r p b ∷ mine) up reach
late_level c r b p mine up reach at has =
    let t = at.entering.told in
    let l = t.late.level in
    record {
      leads = leads_joined c r b p mine t.late.region t.granted l.leads;
      have = λ k region member. elim (cases_eq k p) [
        | inl same ↦ subst (λ x. end_of c r mine ≤ get_or up x 0) (sym same) has
        | inr other ↦ l.have k region (was_member r p k b mine other member)
      ];
      raised = λ k region member. elim (cases_eq k p) [
        | inl same ↦ subst (λ x. IsRaised up reach x × IsRead r mine x (get_or up x 0)) (sym same) (at.entering.raised, at.entering.read)
        | inr other ↦ l.raised k region (was_member r p k b mine other member)
      ];
      few = λ k region member. elim (cases_eq k p) [
        | inl same ↦ subst (λ x. get_or up x 0 ≤ end_of c r mine) (sym same) at.entering.short
        | inr other ↦ l.few k region (was_member r p k b mine other member)
      ];
    }

-- the fence of a member that was seen past ends the leadership
pub fence_ends : (c : Config) (r p i : ℕ) (f : Fence) (mine : List Event) → IsPossible c r (fence_event r p f ∷ mine) → p < c.replicas → SawPast r mine p i → is_over r (fence_event r p f ∷ mine) ≡ true
fence_ends c r p i f mine possible region saw =
    let look = event_by r (Verb.Look p i) Answer.Past in
    let same = subst (λ z. IsPossible c r (fence_event r p f ∷ z)) saw.is possible in
    let puts = saw.puts in
    over (λ is. by_read (fuo_under r p saw.grant (leadership r saw.before)) refl saw.read
    (λ u at low. part_grants_move_law c r p i saw.grant u saw.before saw.since look (fence_event r p f) f same region refl refl saw.noted at low (omega (arith, puts)) refl refl is))
  where
    by_read : (o : Option ℕ) → fuo_under r p saw.grant (leadership r saw.before) ≡ o → is_at_most i o ≡ true → ((u : ℕ) → fuo_under r p saw.grant (leadership r saw.before) ≡ Some u → u ≤ i → ⊥) → ⊥
    by_read None at low moved = true≢false (sym low)
    by_read (Some u) at low moved = moved u at (leb-true u i low)

    changed : (x y on : Bool) → y ≡ false → (x || not y) || on ≡ true
    changed true y on none = refl
    changed false y on none = rw none refl

    over : (f.grant ≢ saw.grant) → is_over r (fence_event r p f ∷ mine) ≡ true
    over other = rw (same_number r, saw.joined) (changed f.closing (f.grant == saw.grant) (is_over r mine) (ne_eqb f.grant saw.grant other))
