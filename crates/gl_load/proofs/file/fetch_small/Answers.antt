use Rattle.std.proofs.Common.{◌≡◌, ◌≤◌, ◌<◌, ◌∙◌, length, rules}
use Rattle.std.specs.Str.{chars}
use Rattle.std.proofs.lemmas.Str.{encodes-chars}
use Rattle.gl_load.specs.Load.{small_file}
use Rattle.gl_load.proofs.Fetch.{read_whole, read_long, long_taken, read_absent}
use Rattle.gl_load.proofs.file.fetch_small.Goals as goal

pub returns-then-len-gt-MOST-clause-told : goal.returns-then-len-gt-MOST-clause-told
unfolding small_file
returns-then-len-gt-MOST-clause-told g c = λ files e.
    let name = c.args.name.now in
    let read = rw c.new-bytes.ensures.items at c.in-Ok.ensures.read in
    let long : 16777216 < length c.fetch.new.into.items = search rules in
    let all : length c.fetch.new.into.items ≡ 16777217 = long_taken 16777216 _ files name c.fetch.new.into.items e read long in
    let taken : c.len-then-len-gt-MOST.result ≡ length c.fetch.new.into.items = search rules in
    (read_long 16777216 _ files (chars name) name c.fetch.new.into.items (encodes-chars name c.utf8.name) e read long, taken ∙ all)

pub returns-in-Ok-clause-told : goal.returns-in-Ok-clause-told
unfolding small_file
returns-in-Ok-clause-told g c = λ files e.
    let name = c.args.name.now in
    let read = rw c.new-bytes.ensures.items at c.in-Ok.ensures.read in
    let short : length c.fetch.new.into.items ≤ 16777216 = search rules in
    read_whole 16777216 _ files (chars name) name c.fetch.new.into.items (encodes-chars name c.utf8.name) e read short

pub returns-in-Err-Absent-clause-told : goal.returns-in-Err-Absent-clause-told
unfolding small_file
returns-in-Err-Absent-clause-told g c = λ files e.
    let name = c.args.name.now in
    read_absent 16777216 _ files (chars name) name (encodes-chars name c.utf8.name) e (search rules)
