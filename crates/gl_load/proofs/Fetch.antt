-- What a fetch of one byte more than the most says of a file.
use Rattle.std.proofs.Common.{◌≡◌, ℕ, ◌+◌, ◌<◌, ◌≤◌, List, [], true, false, leb, Option, Some, Ok, Err, length, take, subst, refl, ap, ◌∙◌, sym, arith}
use Rattle.std.proofs.lemmas.Bool.Decides.{nat_tests}
use Rattle.std.proofs.lemmas.List.{take_all, length-take}
use Rattle.gl_base.specs.Texts.{Text, bytes_of}
use Rattle.gl_outside.specs.Shelf.{Entry, Reads, IsAbsent, file_of}
use Rattle.gl_load.specs.Load.{kept}
use Rattle.gl_load.specs.Refusal.{absent, too_long}

pub short_kept : (limit : ℕ) (bytes : List ℕ) → length bytes ≤ limit → kept limit (Some bytes) ≡ Ok bytes
short_kept limit bytes h = let t : leb (length bytes) limit ≡ true = grind (arith, nat_tests) in rw t refl

long_kept : (limit : ℕ) (bytes : List ℕ) → limit < length bytes → kept limit (Some bytes) ≡ Err too_long
long_kept limit bytes h = let t : leb (length bytes) limit ≡ false = grind (arith, nat_tests) in rw t refl

within : (limit : ℕ) (bytes new : List ℕ) → new ≡ take (limit + 1) bytes → length new ≤ limit → length bytes ≤ limit
within limit bytes new e h = omega (arith, ap length e, length-take (limit + 1) bytes)

past : (limit : ℕ) (bytes new : List ℕ) → new ≡ take (limit + 1) bytes → limit < length new → limit < length bytes
past limit bytes new e h = omega (arith, ap length e, length-take (limit + 1) bytes)

pub read_whole : (limit : ℕ) (o : Option (List Entry)) (files : List Entry) (name : Text) (raw new : List ℕ) → bytes_of name ≡ raw → o ≡ Some files → Reads o raw (limit + 1) [] new → length new ≤ limit → kept limit (file_of files (bytes_of name)) ≡ Ok new
read_whole limit o files name raw new is e h short =
    let r = subst (λ (x : Option (List Entry)). Reads x raw (limit + 1) [] new) e h in
    let len = within limit r.0 new r.2 short in
    let whole = take_all (limit + 1) r.0 (omega arith) in
    rw (is, r.1) (short_kept limit r.0 len ∙ ap Ok (sym (r.2 ∙ whole)))

pub read_long : (limit : ℕ) (o : Option (List Entry)) (files : List Entry) (name : Text) (raw new : List ℕ) → bytes_of name ≡ raw → o ≡ Some files → Reads o raw (limit + 1) [] new → limit < length new → kept limit (file_of files (bytes_of name)) ≡ Err too_long
read_long limit o files name raw new is e h long =
    let r = subst (λ (x : Option (List Entry)). Reads x raw (limit + 1) [] new) e h in
    rw (is, r.1) (long_kept limit r.0 (past limit r.0 new r.2 long))

pub read_absent : (limit : ℕ) (o : Option (List Entry)) (files : List Entry) (name : Text) (raw : List ℕ) → bytes_of name ≡ raw → o ≡ Some files → IsAbsent o raw → kept limit (file_of files (bytes_of name)) ≡ Err absent
read_absent limit o files name raw is e h =
    let none = subst (λ (x : Option (List Entry)). IsAbsent x raw) e h in
    rw (is, none) refl

-- all that was asked for is taken of a file that is too long
pub long_taken : (limit : ℕ) (o : Option (List Entry)) (files : List Entry) (raw new : List ℕ) → o ≡ Some files → Reads o raw (limit + 1) [] new → limit < length new → length new ≡ limit + 1
long_taken limit o files raw new e h long =
    let r = subst (λ (x : Option (List Entry)). Reads x raw (limit + 1) [] new) e h in
    omega (arith, long, ap length r.2, length-take (limit + 1) r.0)
