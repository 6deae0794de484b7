-- answers: how what a server answers is spelled.
use Rattle.std.specs.Prelude.{ℕ, List, [], ◌∷◌}
use Rattle.mu_resp.specs.declared.TheConstants.{PLUS, MINUS, COLON, STAR, DOLLAR, ONE}
use Rattle.mu_resp.specs.Requests.{header, line}

-- a word of the protocol
abbrev pub simple : List ℕ → List ℕ
simple text = PLUS ∷ line text

-- why there is no answer
abbrev pub refusal : List ℕ → List ℕ
refusal text = MINUS ∷ line text

-- a number
abbrev pub integer : ℕ → List ℕ
integer number = header COLON number

-- no value
abbrev pub nil : List ℕ
nil = DOLLAR ∷ line (MINUS ∷ ONE ∷ [])

-- the front of an array: as many answers follow
abbrev pub array : ℕ → List ℕ
array count = header STAR count
