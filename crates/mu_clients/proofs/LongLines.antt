-- Lines with more words than an item or a reply has.
use Rattle.std.proofs.Common.{◌≡◌, ℕ, ◌<◌, true, List, [], ◌∷◌, length, refl, ap, ◌∙◌, None, arith}
use Rattle.std.specs.Prelude.{codes}
use Rattle.std.specs.Str.{bytes_eq}
use Rattle.mu_clients.specs.Items.{item_of, reply_of}
use Rattle.mu_text.proofs.Cutting.{words-some}
use Rattle.mu_text.specs.Lines.{words}

long_reply : (a b : List ℕ) (more : List (List ℕ)) → 0 < length more → reply_of (a ∷ b ∷ more) ≡ None
long_reply a b [] some = absurd (omega (arith, some))
long_reply a b (c ∷ more) some = refl

-- no reply has three words
pub reply_long : (text rest more a b : List ℕ) → words text ≡ a ∷ words rest → words rest ≡ b ∷ words more → reply_of (words text) ≡ None
reply_long text rest more a b first second = ap reply_of (first ∙ ap (λ l. a ∷ l) second) ∙ long_reply a b (words more) (words-some more)

long_got : (n rows : ℕ) (a b : List ℕ) (more : List (List ℕ)) → 0 < length more → bytes_eq a (codes "got") ≡ true → item_of n rows (a ∷ b ∷ more) ≡ None
long_got n rows a b [] some got = absurd (omega (arith, some))
long_got n rows a b (c ∷ more) some got = rw got refl

-- what begins with `got` and has three words is no item
pub got_long : (n rows : ℕ) (line rest more a b : List ℕ) → words line ≡ a ∷ words rest → words rest ≡ b ∷ words more → bytes_eq a (codes "got") ≡ true → item_of n rows (words line) ≡ None
got_long n rows line rest more a b first second got = ap (item_of n rows) (first ∙ ap (λ l. a ∷ l) second) ∙ long_got n rows a b (words more) (words-some more) got
