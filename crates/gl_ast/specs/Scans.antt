-- Reading forward: what is left after something that stands at the front, or None where it does not stand there.
use Rattle.std.specs.Prelude.{ℕ, zero, suc, List, [], ◌∷◌, ◌-◌, Bool, ◌&&◌, not, ◌==◌, length, if◌then◌else◌, Option, Some, None, is_some, option_map, unwrap_or}

-- after these bytes
abbrev pub after : List ℕ → List ℕ → Option (List ℕ)
after [] bs = Some bs
after (c ∷ cs) [] = None
after (c ∷ cs) (b ∷ bs) = if c == b then after cs bs else None

abbrev pub begins : List ℕ → List ℕ → Bool
begins cs bs = is_some (after cs bs)

-- after these bytes, where they stand there
abbrev pub after_any : List ℕ → List ℕ → List ℕ
after_any cs bs = unwrap_or (after cs bs) bs

-- after all bytes that pass the test
abbrev pub after_all : (ℕ → Bool) → List ℕ → List ℕ
after_all p [] = []
after_all p (b ∷ bs) = if p b then after_all p bs else b ∷ bs

-- after a byte that passes the first test and all that follow it and pass the second
abbrev pub after_word : (ℕ → Bool) → (ℕ → Bool) → List ℕ → Option (List ℕ)
after_word first more [] = None
after_word first more (b ∷ bs) = if first b then Some (after_all more bs) else None

-- from the first place on at which the test holds of what is left
abbrev pub from_first : (List ℕ → Bool) → List ℕ → Option (List ℕ)
from_first p [] = None
from_first p (b ∷ bs) = if p (b ∷ bs) then Some (b ∷ bs) else from_first p bs

-- the same, or nothing where there is no such place
abbrev pub up_to_first : (List ℕ → Bool) → List ℕ → List ℕ
up_to_first p [] = []
up_to_first p (b ∷ bs) = if p (b ∷ bs) then b ∷ bs else up_to_first p bs

-- after a run of at least one byte up to the first place at which the test holds
abbrev pub after_run : (List ℕ → Bool) → List ℕ → Option (List ℕ)
after_run p [] = None
after_run p (b ∷ bs) = if p (b ∷ bs) then None else Some (up_to_first p bs)

-- after as many pieces as stand there one after another; the first `skipped` bytes are of a piece that was read
abbrev pub after_pieces : (List ℕ → Option (List ℕ)) → ℕ → List ℕ → List ℕ
after_pieces piece skipped [] = []
after_pieces piece (suc skipped) (b ∷ bs) = after_pieces piece skipped bs
after_pieces piece zero (b ∷ bs) = unwrap_or (option_map (λ rest. after_pieces piece (length bs - length rest) bs) (piece (b ∷ bs))) (b ∷ bs)

-- after the quote that closes a string; a `\` directly before a quote takes away its meaning
abbrev pub after_closing : ℕ → Bool → List ℕ → Option (List ℕ)
after_closing quote escaped [] = None
after_closing quote escaped (b ∷ bs) = if b == quote && not escaped then Some bs else after_closing quote (b == 92) bs
