-- What a stream holds after several writes.
use Rattle.std.proofs.Common.{◌≡◌, List, ℕ, ◌++◌, take, drop, Option, None, Some, sym, ap, ◌∙◌, append_assoc}
use Rattle.std.proofs.lemmas.List.{take-append-drop}
use Rattle.std.specs.Io.KnownBytes.{Appends}

-- one piece after another
pub appends_more : (a b c : Option (List ℕ)) (x y : List ℕ) → Appends a b x → Appends b c y → Appends a c (x ++ y)
appends_more None b c x y p q = tt
appends_more (Some s) None c x y p q = absurd p
appends_more (Some s) (Some t) None x y p q = absurd q
appends_more (Some s) (Some t) (Some u) x y p q = (rw p at q) ∙ append_assoc s x y

-- what is written, and what is left after the next bytes
pub parts_next : (piece done rest : List ℕ) (count : ℕ) → piece ≡ done ++ rest → piece ≡ (done ++ take count rest) ++ drop count rest
parts_next piece done rest count p =
    p ∙ ap (λ r. done ++ r) (sym (take-append-drop count rest)) ∙ sym (append_assoc done (take count rest) (drop count rest))
