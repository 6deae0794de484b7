-- What the step of each verb does to its word is what the law makes of it.
use Rattle.std.proofs.Common.{◌≡◌, ℕ, Bool, true, false, cond, ◌==◌, List, refl, sym, ap, subst, ◌∙◌, eqb-true, arith}
use prog.Atomic.{either}
use Rattle.std.proofs.Math.Nat.{max_comm}
use Rattle.std.proofs.lemmas.Bool.{eqb-false, ne_eqb}
use Rattle.mu_model.specs.declared.config.Config.{Config}
use Rattle.mu_model.specs.declared.event.Event.{Event}
use Rattle.mu_model.specs.declared.event.Verb.{Verb}
use Rattle.mu_model.specs.Allowed.{Allowed}
use Rattle.mu_model.specs.Contents.{IsConfig}
use Rattle.mu_model.specs.Histories.{part}
use Rattle.mu_model.specs.Legal.{IsLegalHistory}
use Rattle.mu_model.proofs.Basics.{same_number}
use Rattle.mu_words.specs.declared.verbs.Move.{Move}
use Rattle.mu_words.specs.Finding.{expected, name_of}
use Rattle.mu_words.specs.Standing.{close_grant, standing_word}
use Rattle.mu_words.specs.Verbs.{HasRoom, IsLike, IsMove, WordFits, granted, made_of, move_of, word_after}
use Rattle.mu_words.proofs.Forms.{grant_is}
use Rattle.mu_words.proofs.Limits.{config_is_limited}
use Rattle.shared_steps.specs.Moves.{left_by}
use Rattle.shared_steps.proofs.Keeps.{Does}

-- a move that is like another makes the same of a word that fits, and leaves it as much room
made_like : (fits : ℕ → Type 0) (this move : Move) (w : ℕ) → IsLike fits this move → fits w → made_of move w ≡ made_of this w
made_like fits (Move.Exchange old new) move w is room = ap (λ m. made_of m w) is.1 ∙ go (old == w) refl
  where
    go : (t : Bool) → (old == w) ≡ t → cond t is.0 w ≡ cond t new w
    go true k = is.2 (subst fits (sym (eqb-true old w k)) room)
    go false k = refl
made_like fits this move w is room = ap (λ m. made_of m w) is

room_like : (fits : ℕ → Type 0) (this move : Move) (w : ℕ) → IsLike fits this move → HasRoom this w → HasRoom move w
room_like fits (Move.Exchange old new) move w is room = subst (λ m. HasRoom m w) (sym is.1) tt
room_like fits this move w is room = subst (λ m. HasRoom m w) (sym is) room

-- a word that fits the verb has room for its move
room_of : (ring grant : ℕ) (v : Verb) (x w : ℕ) → WordFits v w → HasRoom (move_of ring grant v x) w
room_of ring grant Verb.Drain x w fits = tt
room_of ring grant v x w fits = fits

has_room : (ring grant : ℕ) (v : Verb) (x w : ℕ) (move : Move) → IsLike (WordFits v) (move_of ring grant v x) move → WordFits v w → HasRoom move w
has_room ring grant v x w move is fits = room_like (WordFits v) (move_of ring grant v x) move w is (room_of ring grant v x w fits)

-- an atomic step makes of a word, if it has room, what its move does
makes : (m : Move) (w : ℕ) → HasRoom m w → left_by m w ≡ made_of m w
makes (Move.Raise least) w room = max_comm w least
makes Move.Add w room = omega (arith, room)
makes (Move.Exchange old new) w room = go (w == old) refl
  where
    go : (t : Bool) → (w == old) ≡ t → either t new w ≡ cond (old == w) new w
    go true k = rw (eqb-true w old k, same_number old) refl
    go false k = rw (ne_eqb old w (λ e. eqb-false w old k (sym e))) refl
makes m w room = refl

-- a `Grant` counts on from the grant that the last `Close` found, which is that of the word
grants : (c : Config) (past : List Event) (r : ℕ) (mine : List Event) (v : Verb) (x w : ℕ) → IsConfig c → IsLegalHistory c past → part r past ≡ mine → Allowed c r mine v → w ≡ standing_word c past (name_of c r mine v)
    → made_of (move_of c.ring (close_grant r mine) v x) w ≡ word_after c.ring v x w
grants c past r mine (Verb.Grant q) x w given legal is may at =
    let law = grant_is c r past q 0 (config_is_limited c given) legal (subst (λ (m : List Event). Allowed c r m (Verb.Grant q)) (sym is) may) in
    ap (λ (m : List Event). granted (close_grant r m) q) (sym is) ∙ (sym law ∙ ap (word_after c.ring (Verb.Grant q) 0) (sym at))
grants c past r mine v x w given legal is may at = refl

pub does : (c : Config) (r : ℕ) (mine : List Event) (seen : List (Event × ℕ)) (v : Verb) (x : ℕ) (m : Move) → IsConfig c → Allowed c r mine v → x ≡ expected c r mine seen v → IsMove c.ring (close_grant r mine) v x m → Does c r mine seen v (left_by m)
does c r mine seen v x m good may same is past w legal own at fits =
    makes m w (has_room c.ring (close_grant r mine) v x w m is fits)
    ∙ (made_like (WordFits v) (move_of c.ring (close_grant r mine) v x) m w is fits
    ∙ (grants c past r mine v x w good legal own may at ∙ ap (λ y. word_after c.ring v y w) same))
