-- Laws of lists that have each name once.
use Rattle.std.proofs.Common.{◌≡◌, List, [], ◌∷◌, ◌++◌, Bool, true, false, length, take, refl, sym, ap, ◌∙◌, append-nil, append_assoc}
use Rattle.std.specs.Prelude.{if◌then◌else◌}
use Rattle.std.proofs.Math.Seq.{take-append_seam}
use Rattle.gl_base.specs.Names.{has_text}
use Rattle.gl_base.specs.Texts.{Text}
use Rattle.gl_wire.specs.Symbols.{with_name, with_names}

-- the names of two lists, one list after the other
pub with_names-append : (ns xs ys : List Text) → with_names ns (xs ++ ys) ≡ with_names (with_names ns xs) ys
with_names-append ns [] ys = refl
with_names-append ns (x ∷ xs) ys = with_names-append (with_name ns x) xs ys

more_name : (b : Bool) (ns : List Text) (n : Text) → (more : List Text) × ((if b then ns else ns ++ n ∷ []) ≡ ns ++ more)
more_name true ns n = ([], sym (append-nil ns))
more_name false ns n = (n ∷ [], refl)

-- names are added at the end
more_names : (ns xs : List Text) → (more : List Text) × (with_names ns xs ≡ ns ++ more)
more_names ns [] = ([], sym (append-nil ns))
more_names ns (x ∷ xs) =
    let one = more_name (has_text x ns) ns x in
    let rest = more_names (with_name ns x) xs in
    (one.0 ++ rest.0, rest.1 ∙ ap (λ l. l ++ rest.0) one.1 ∙ append_assoc ns one.0 rest.0)

-- so what was there before stands in front
pub take-with_names : (ns xs : List Text) → take (length ns) (with_names ns xs) ≡ ns
take-with_names ns xs = let more = more_names ns xs in ap (take (length ns)) more.1 ∙ take-append_seam ns more.0

-- the next names are added, and what is left follows
pub noted_more : (now next m rest all : List Text) → next ≡ with_names now m → with_names now (m ++ rest) ≡ all → with_names next rest ≡ all
noted_more now next m rest all e f = ap (λ l. with_names l rest) e ∙ sym (with_names-append now m rest) ∙ f

-- the same with two steps
pub noted_two : (now mid next m n rest all : List Text) → mid ≡ with_names now m → next ≡ with_names mid n → with_names now (m ++ (n ++ rest)) ≡ all → with_names next rest ≡ all
noted_two now mid next m n rest all e f g = noted_more mid next n rest all f (noted_more now mid m (n ++ rest) all e g)

pub ruleset once_laws = (with_names-append, take-with_names)
