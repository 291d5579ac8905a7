-- What a fetch from a shelf of files gives.
use Rattle.std.specs.Prelude.{◌≡◌, ◌≤◌, ℕ, List, ◌++◌, length, take, Option, Some, None, IfSome, option_map}
use Rattle.std.specs.List.{find}
use Rattle.std.specs.Str.{bytes_eq}

-- a file: the bytes of its name, and its bytes
abbrev pub Entry : Type 0
Entry = List ℕ × List ℕ

-- the bytes of the first file of that name
abbrev pub file_of : List Entry → List ℕ → Option (List ℕ)
file_of files name = option_map (λ f. f.1) (find (λ f. bytes_eq f.0 name) files)

-- new is old with something at its end
abbrev pub Begins : List ℕ → List ℕ → Type 0
Begins old new = (more : List ℕ) × (new ≡ old ++ more)

-- new is old with at most so many bytes at its end
abbrev pub Gains : ℕ → List ℕ → List ℕ → Type 0
Gains most old new = (bytes : List ℕ) × (length bytes ≤ most) × (new ≡ old ++ bytes)

-- new is old with the first bytes of the named file at its end, at most so many of them
abbrev pub Reads : Option (List Entry) → List ℕ → ℕ → List ℕ → List ℕ → Type 0
Reads None name most old new = Gains most old new
Reads (Some files) name most old new = (bytes : List ℕ) × (file_of files name ≡ Some bytes) × (new ≡ old ++ take most bytes)

-- where the shelf tells, it holds no file of that name
abbrev pub IsAbsent : Option (List Entry) → List ℕ → Type 0
IsAbsent holds name = IfSome holds (λ files. file_of files name ≡ None)
