-- The token that is read first is the longest that stands there.
use Rattle.std.proofs.Common.{◌≡◌, ◌<◌, ℕ, List, [], ◌∷◌, ◌++◌, Bool, true, false, ◌⊎◌, inl, inr, eqb, Option, Some, None, length, refl, sym, ap, ◌∙◌, arith}
use Rattle.gl_base.specs.Names.{or_else}
use Rattle.std.proofs.lemmas.Bool.Decides.{nat_tests}
use Rattle.gl_ast.specs.Scans.{after, after_all, after_word}
use Rattle.gl_ast.proofs.Forward.{if_some, same_byte}
use Rattle.gl_ast.specs.Modes.{Found, found, first_found}
use Rattle.gl_ast.specs.Tokens.{IsOneOf, IsLongest}
use Rattle.gl_ast.specs.declared.mode.Mode.{Mode}
use Rattle.gl_ast.specs.declared.token.TokenKind.{TokenKind}

-- what may stand is no longer than f, or it is f
abbrev pub NotLonger : Found → Option Found → Type 0
NotLonger f o = (g : Found) → o ≡ Some g → (g ≡ f) ⊎ (length f.1 < length g.1)

abbrev pub NoneLonger : Found → List (Option Found) → Type 0
NoneLonger f [] = Unit {0}
NoneLonger f (o ∷ os) = NotLonger f o × NoneLonger f os

-- each is longer than those after it
abbrev pub Ordered : List (Option Found) → Type 0
Ordered [] = Unit {0}
Ordered (o ∷ os) = ((f : Found) → o ≡ Some f → NoneLonger f os) × Ordered os

among : (f g : Found) (os : List (Option Found)) → NoneLonger f os → IsOneOf g os → (g ≡ f) ⊎ (length f.1 < length g.1)
among f g [] n i = absurd i
among f g (o ∷ os) n (inl e) = n.0 g e
among f g (o ∷ os) n (inr i) = among f g os n.1 i

first_case : (o : Option Found) (os : List (Option Found)) (f : Found) → ((h : Found) → o ≡ Some h → NoneLonger h os) → (first_found os ≡ Some f → IsLongest f os) → or_else o (first_found os) ≡ Some f → IsLongest f (o ∷ os)
first_case None os f n more e =
    let l = more e in
    (inr l.0, λ g i. elim i [ inl h ↦ cc | inr j ↦ l.1 g j ])
first_case (Some x) os f n more e =
    (inl e, λ g i. elim i [ inl h ↦ inl (cc) | inr j ↦ among f g os (n f e) j ])

-- the first of an ordered list is the longest
pub first_longest : (os : List (Option Found)) (f : Found) → Ordered os → first_found os ≡ Some f → IsLongest f os
first_longest [] f n e = cc
first_longest (o ∷ os) f n e = first_case o os f n.0 (first_longest os f n.1) e

none_case : (o : Option Found) (os : List (Option Found)) (g : Found) → (first_found os ≡ None → IsOneOf g os → ⊥) → or_else o (first_found os) ≡ None → IsOneOf g (o ∷ os) → ⊥
none_case None os g more e (inl h) = cc
none_case None os g more e (inr i) = more e i
none_case (Some x) os g more e i = cc

-- where none is read none stands there
pub none_stands : (os : List (Option Found)) (g : Found) → first_found os ≡ None → IsOneOf g os → ⊥
none_stands [] g e i = i
none_stands (o ∷ os) g e i = none_case o os g (none_stands os g) e i

longest_case : (os : List (Option Found)) (f : Found) (o : Option Found) → Ordered os → first_found os ≡ o → IsLongest f os → o ≡ Some f
longest_case os f None n e l = absurd (none_stands os f e l.0)
longest_case os f (Some h) n e l =
    let first = first_longest os h n e in
    elim (first.1 f l.0) [ inl same ↦ ap Some (sym same) | inr less ↦ elim (l.1 h first.0) [ inl same ↦ ap Some same | inr more ↦ absurd (omega (arith, less, more)) ] ]

-- and the longest is the first
pub longest_first : (os : List (Option Found)) (f : Found) → Ordered os → IsLongest f os → first_found os ≡ Some f
longest_first os f n l = longest_case os f (first_found os) n refl l

-- Tokens that begin in different ways can't stand at one place: each is listed with how it begins, as a number.
abbrev pub Led : ℕ → List (ℕ × Option Found) → Type 0
Led n [] = Unit {0}
Led n (x ∷ xs) = ((f : Found) → x.1 ≡ Some f → n ≡ x.0) × Led n xs

-- of two that begin in one way, the first is the longer
abbrev pub Longer : Option Found → Option Found → Type 0
Longer o p = (f g : Found) → o ≡ Some f → p ≡ Some g → (g ≡ f) ⊎ (length f.1 < length g.1)

abbrev pub LongerIf : Bool → Option Found → Option Found → Type 0
LongerIf true o p = Longer o p
LongerIf false o p = Unit {0}

abbrev pub LongerThan : ℕ → Option Found → List (ℕ × Option Found) → Type 0
LongerThan c o [] = Unit {0}
LongerThan c o (x ∷ xs) = LongerIf (eqb c x.0) o x.1 × LongerThan c o xs

abbrev pub Falling : List (ℕ × Option Found) → Type 0
Falling [] = Unit {0}
Falling (x ∷ xs) = LongerThan x.0 x.1 xs × Falling xs

abbrev pub listed : List (ℕ × Option Found) → List (Option Found)
listed [] = []
listed (x ∷ xs) = x.1 ∷ listed xs

eqb_same : (n c d : ℕ) → n ≡ c → n ≡ d → eqb c d ≡ true
eqb_same n c d e h = grind (arith, nat_tests)

apart_case : (n c d : ℕ) (o p : Option Found) (f : Found) (t : Bool) → eqb c d ≡ t → (o ≡ Some f → n ≡ c) → ((g : Found) → p ≡ Some g → n ≡ d) → LongerIf t o p → o ≡ Some f → NotLonger f p
apart_case n c d o p f true e l r longer is g at = longer f g is at
apart_case n c d o p f false e l r longer is g at = let h = sym e ∙ eqb_same n c d (l is) (r g at) in cc

none_longer : (n c : ℕ) (o : Option Found) (f : Found) (xs : List (ℕ × Option Found)) → (o ≡ Some f → n ≡ c) → Led n xs → LongerThan c o xs → o ≡ Some f → NoneLonger f (listed xs)
none_longer n c o f [] l led longer is = tt
none_longer n c o f (x ∷ xs) l led longer is =
    (apart_case n c x.0 o x.1 f (eqb c x.0) refl l led.0 longer.0 is, none_longer n c o f xs l led.1 longer.1 is)

pub ordered : (n : ℕ) (xs : List (ℕ × Option Found)) → Led n xs → Falling xs → Ordered (listed xs)
ordered n [] led falling = tt
ordered n (x ∷ xs) led falling = (λ f is. none_longer n x.0 x.1 f xs (led.0 f) led.1 falling.0 is, ordered n xs led.1 falling.1)

-- what a scan that found a token left
pub found_left : (kind : TokenKind) (next : Mode) (o : Option (List ℕ)) (f : Found) → found kind next o ≡ Some f → o ≡ Some f.1
found_left kind next None f e = cc
found_left kind next (Some x) f e = let h : x ≡ f.1 = cc in ap Some h

-- a list that begins with these bytes
pub after_is_front : (cs bs rest : List ℕ) → after cs bs ≡ Some rest → bs ≡ cs ++ rest
after_is_front [] bs rest e = cc
after_is_front (c ∷ cs) [] rest e = cc
after_is_front (c ∷ cs) (b ∷ bs) rest e =
    let t = if_some (eqb c b) (after cs bs) rest e in
    let same = same_byte c b t.0 in
    ap (λ l. b ∷ l) (after_is_front cs bs rest t.1) ∙ ap (λ n. n ∷ (cs ++ rest)) (sym same)

-- the way in which bytes begin, where they are known to
pub lead_after : (lead : List ℕ → ℕ) (cs bs rest : List ℕ) (n : ℕ) → ((l : List ℕ) → lead (cs ++ l) ≡ n) → after cs bs ≡ Some rest → lead bs ≡ n
lead_after lead cs bs rest n is e = ap lead (after_is_front cs bs rest e) ∙ is rest

pub lead_word : (lead : List ℕ → ℕ) (first more : ℕ → Bool) (bs rest : List ℕ) (n : ℕ) → ((b : ℕ) (l : List ℕ) → first b ≡ true → lead (b ∷ l) ≡ n) → after_word first more bs ≡ Some rest → lead bs ≡ n
lead_word lead first more [] rest n is e = cc
lead_word lead first more (b ∷ bs) rest n is e = is b bs (if_some (first b) (Some (after_all more bs)) rest e).0
