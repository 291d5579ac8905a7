-- Laws of what a sink took.
use Rattle.std.proofs.Common.{◌≡◌, ◌≤◌, ◌+◌, ℕ, zero, suc, List, [], ◌∷◌, ◌++◌, Option, Some, None, length, take, drop, refl, sym, ap, ◌∙◌, append_assoc, append-nil, add-one, arith}
use Rattle.std.proofs.lemmas.List.{take-append-drop, take_all}
use Rattle.std.proofs.lemmas.Grind.{flat_map-append}
use Rattle.std.proofs.lemmas.Str.{encodes-append}
use Rattle.gl_base.specs.Texts.{Text, bytes_of, joined}
use Rattle.gl_base.specs.Taking.{Takes, TakesFront, TakesSome}

pub takes_nothing : (a : Option (List ℕ)) → Takes a a []
takes_nothing None = refl
takes_nothing (Some x) = ap Some (sym (append-nil x))

-- one piece after another
pub takes_more : (a b c : Option (List ℕ)) (x y : List ℕ) → Takes a b x → Takes b c y → Takes a c (x ++ y)
takes_more None b c x y p q = rw p at q
takes_more (Some t) b c x y p q = (rw p at q) ∙ ap Some (append_assoc t x y)

-- a front of the second piece after the first
pub front_more : (a b c : Option (List ℕ)) (x y : List ℕ) → Takes a b x → TakesFront b c y → TakesFront a c (x ++ y)
front_more a b c x y p q = (x ++ q.0, q.1, ap (λ z. x ++ z) q.2 ∙ sym (append_assoc x q.0 q.1), takes_more a b c x q.0 p q.3)

-- a front of the first piece is a front of both
pub front_of : (a b : Option (List ℕ)) (x y : List ℕ) → TakesFront a b x → TakesFront a b (x ++ y)
front_of a b x y q = (q.0, q.1 ++ y, ap (λ z. z ++ y) q.2 ∙ append_assoc q.0 q.1 y, q.3)

-- the whole piece is a front of it
pub front_whole : (a b : Option (List ℕ)) (x : List ℕ) → Takes a b x → TakesFront a b x
front_whole a b x p = (x, [], sym (append-nil x), p)

pub front_nothing : (a : Option (List ℕ)) (x : List ℕ) → TakesFront a a x
front_nothing a x = ([], x, refl, takes_nothing a)

-- Texts that are taken one after another: after n of them, the next is t.
joined_suc : (n : ℕ) (all rest : List Text) (t : Text) → drop n all ≡ t ∷ rest → joined (take (suc n) all) ≡ joined (take n all) ++ t
joined_suc zero [] rest t e = cc
joined_suc zero (x ∷ all) rest t e = let h : x ≡ t = cc in append-nil x ∙ h
joined_suc (suc n) [] rest t e = cc
joined_suc (suc n) (x ∷ all) rest t e = ap (λ l. x ++ l) (joined_suc n all rest t e) ∙ sym (append_assoc x (joined (take n all)) t)

bytes_next : (n : ℕ) (all rest : List Text) (t : Text) → drop n all ≡ t ∷ rest → bytes_of (joined (take (n + 1) all)) ≡ bytes_of (joined (take n all)) ++ bytes_of t
bytes_next n all rest t e = rw add-one (ap bytes_of (joined_suc n all rest t e) ∙ encodes-append (joined (take n all)) t)

bytes_parts : (n : ℕ) (all : List Text) → bytes_of (joined all) ≡ bytes_of (joined (take n all)) ++ bytes_of (joined (drop n all))
bytes_parts n all =
    ap (λ l. bytes_of (joined l)) (sym (take-append-drop n all)) ∙ ap bytes_of (flat_map-append (λ (t : Text). t) (take n all) (drop n all))
    ∙ encodes-append (joined (take n all)) (joined (drop n all))

drop_suc : (n : ℕ) (all rest : List Text) (t : Text) → drop n all ≡ t ∷ rest → drop (suc n) all ≡ rest
drop_suc zero [] rest t e = cc
drop_suc zero (x ∷ all) rest t e = cc
drop_suc (suc n) [] rest t e = cc
drop_suc (suc n) (x ∷ all) rest t e = drop_suc n all rest t e

pub drop_next : (n : ℕ) (all rest : List Text) (t : Text) → drop n all ≡ t ∷ rest → drop (n + 1) all ≡ rest
drop_next n all rest t e = rw add-one (drop_suc n all rest t e)

-- it is taken whole
pub takes_next : (a b c : Option (List ℕ)) (n : ℕ) (all rest : List Text) (t : Text) → Takes a b (bytes_of (joined (take n all))) → drop n all ≡ t ∷ rest → Takes b c (bytes_of t) → Takes a c (bytes_of (joined (take (n + 1) all)))
takes_next a b c n all rest t p e q = rw (bytes_next n all rest t e) (takes_more a b c _ (bytes_of t) p q)

-- a front of it is taken
pub takes_front : (a b c : Option (List ℕ)) (n : ℕ) (all rest : List Text) (t : Text) → Takes a b (bytes_of (joined (take n all))) → drop n all ≡ t ∷ rest → TakesFront b c (bytes_of t) → TakesFront a c (bytes_of (joined all))
takes_front a b c n all rest t p e q =
    let cut = bytes_parts n all in
    let left : bytes_of (joined (drop n all)) ≡ bytes_of t ++ bytes_of (joined rest) = rw e (encodes-append t (joined rest)) in
    rw (cut, left) (front_more a b c (bytes_of (joined (take n all))) (bytes_of t ++ bytes_of (joined rest)) p (front_of b c (bytes_of t) (bytes_of (joined rest)) q))

-- none is left
pub takes_all : (a b : Option (List ℕ)) (n : ℕ) (all : List Text) → Takes a b (bytes_of (joined (take n all))) → drop n all ≡ [] → Takes a b (bytes_of (joined all))
takes_all a b n all p e = rw (bytes_parts n all, e, append-nil) p

pub some_nothing : (a : Option (List ℕ)) (all : List Text) → TakesSome a a all
some_nothing a all = (0, takes_nothing a)

-- all are some of the first
pub some_all : (a b : Option (List ℕ)) (all : List Text) → Takes a b (bytes_of (joined all)) → TakesSome a b all
some_all a b all p = let h : length all ≤ length all = omega arith in (length all, rw (take_all (length all) all h) p)
