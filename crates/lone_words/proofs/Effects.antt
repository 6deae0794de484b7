-- What an access does to its word is what the law of word steps makes of it.
use Rattle.std.proofs.Common.{◌≡◌, ℕ, Bool, true, false, cond, ◌==◌, List, refl, sym, ap, subst, ◌∙◌, eqb-true, arith}
use Rattle.mu_model.specs.declared.config.Config.{Config}
use Rattle.mu_model.specs.declared.event.Event.{Event}
use Rattle.mu_model.specs.declared.event.Verb.{Verb}
use Rattle.mu_model.specs.Allowed.{Allowed}
use Rattle.mu_model.specs.Contents.{IsConfig}
use Rattle.mu_model.specs.Histories.{part}
use Rattle.mu_model.specs.Legal.{IsLegalHistory}
use Rattle.mu_words.specs.declared.verbs.Move.{Move}
use Rattle.mu_words.specs.Finding.{name_of}
use Rattle.mu_words.specs.Standing.{close_grant, standing_word}
use Rattle.mu_words.specs.Verbs.{HasRoom, IsLike, IsMove, WordFits, made_of, move_of, word_after}
use Rattle.mu_words.proofs.Forms.{grant_is}
use Rattle.mu_words.proofs.Limits.{config_is_limited}
use Rattle.lone_words.specs.Memory.{left_by}

-- a move that is like another makes the same of a word that fits, and leaves it as much room
made_like : (fits : ℕ → Type 0) (this move : Move) (w : ℕ) → IsLike fits this move → fits w → made_of move w ≡ made_of this w
made_like fits (Move.Exchange old new) move w is room = ap (λ m. made_of m w) is.1 ∙ go (old == w) refl
  where
    go : (t : Bool) → (old == w) ≡ t → cond t is.0 w ≡ cond t new w
    go true k = is.2 (subst fits (sym (eqb-true old w k)) room)
    go false k = refl
made_like fits this move w is room = ap (λ m. made_of m w) is

room_like : (fits : ℕ → Type 0) (this move : Move) (w : ℕ) → IsLike fits this move → HasRoom this w → HasRoom move w
room_like fits (Move.Exchange old new) move w is room = subst (λ m. HasRoom m w) (sym is.1) tt
room_like fits this move w is room = subst (λ m. HasRoom m w) (sym is) room

-- a word that fits the verb has room for its move
room_of : (ring grant : ℕ) (v : Verb) (x w : ℕ) → WordFits v w → HasRoom (move_of ring grant v x) w
room_of ring grant Verb.Drain x w fits = tt
room_of ring grant v x w fits = fits

-- a step on a word of 64 bits makes of it, if it has room, what its move does
makes : (m : Move) (w : ℕ) → HasRoom m w → left_by m w ≡ made_of m w
makes Move.Add w room = omega (arith, room)
makes m w room = refl

-- a `Grant` counts on from the grant that the last `Close` found, which is that of the word
grants : (c : Config) (past : List Event) (r : ℕ) (v : Verb) (x w : ℕ) → IsConfig c → IsLegalHistory c past → Allowed c r (part r past) v → w ≡ standing_word c past (name_of c r (part r past) v)
    → made_of (move_of c.ring (close_grant r (part r past)) v x) w ≡ word_after c.ring v x w
grants c past r (Verb.Grant q) x w given legal may at =
    sym (grant_is c r past q 0 (config_is_limited c given) legal may) ∙ ap (word_after c.ring (Verb.Grant q) 0) (sym at)
grants c past r v x w given legal may at = refl

-- so a move of an allowed step leaves of the word that stands what the law makes of it
pub leaves_as_law : (c : Config) (past : List Event) (r : ℕ) (v : Verb) (x w : ℕ) (m : Move) → IsConfig c → IsLegalHistory c past → Allowed c r (part r past) v → w ≡ standing_word c past (name_of c r (part r past) v) → WordFits v w
    → IsMove c.ring (close_grant r (part r past)) v x m → left_by m w ≡ word_after c.ring v x w
leaves_as_law c past r v x w m good legal may at fits is =
    let this = move_of c.ring (close_grant r (part r past)) v x in
    makes m w (room_like (WordFits v) this m w is (room_of c.ring (close_grant r (part r past)) v x w fits))
    ∙ (made_like (WordFits v) this m w is fits ∙ grants c past r v x w good legal may at)
