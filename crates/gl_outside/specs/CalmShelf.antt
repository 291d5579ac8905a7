-- What a calm shelf keeps.
use Rattle.std.specs.Prelude.{◌==◌, ◌&&◌, ℕ, Bool, not, List, is_none}
use Rattle.gl_outside.specs.declared.calm.CalmShelf.{CalmShelf}
use Rattle.gl_outside.specs.Shelf.{Entry, file_of}
use Rattle.gl_outside.specs.Sink.{last_count}

abbrev pub files_of : CalmShelf → List Entry
files_of shelf = shelf.files

abbrev pub misses_of : CalmShelf → ℕ
misses_of shelf = shelf.misses

-- it never fails
abbrev pub faults_of : CalmShelf → ℕ
faults_of _ = 0

-- it holds no file of that name, and can still count a miss
abbrev pub is_missed : CalmShelf → List ℕ → Bool
is_missed shelf name = is_none (file_of (files_of shelf) name) && not (misses_of shelf == last_count)
