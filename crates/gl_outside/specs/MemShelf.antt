-- What a shelf in memory keeps.
use Rattle.std.specs.Prelude.{◌≡◌, ◌⊎◌, ◌&&◌, ℕ, Bool, not, List, is_none}
use Rattle.gl_outside.specs.declared.memory.MemShelf.{MemShelf}
use Rattle.gl_outside.specs.Calls.{is_listed}
use Rattle.gl_outside.specs.Shelf.{Entry, file_of}
use Rattle.gl_outside.specs.Sink.{last_count}

abbrev pub files_of : MemShelf → List Entry
files_of shelf = shelf.files

-- the numbers of the fetches that fail
abbrev pub failing_of : MemShelf → List ℕ
failing_of shelf = shelf.failing

-- how many fetches were counted so far, so the number of the next
abbrev pub calls_of : MemShelf → ℕ
calls_of shelf = shelf.calls

abbrev pub misses_of : MemShelf → ℕ
misses_of shelf = shelf.misses

abbrev pub faults_of : MemShelf → ℕ
faults_of shelf = shelf.faults

-- a count stands at its last value, so that the next fetch can't be counted
abbrev pub IsFull : MemShelf → Type 0
IsFull shelf = (calls_of shelf ≡ last_count) ⊎ (misses_of shelf ≡ last_count) ⊎ (faults_of shelf ≡ last_count)

-- the next fetch is to fail
abbrev pub is_failing : MemShelf → Bool
is_failing shelf = is_listed (failing_of shelf) (calls_of shelf)

-- the next fetch isn't to fail, and there is no file of that name
abbrev pub is_missed : MemShelf → List ℕ → Bool
is_missed shelf name = not (is_failing shelf) && is_none (file_of (files_of shelf) name)
