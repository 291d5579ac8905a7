-- Lines that are said piece by piece.
use Rattle.std.proofs.Common.{◌≡◌, ◌<◌, ◌≤◌, ◌⊎◌, inl, inr, ℕ, zero, suc, List, [], ◌∷◌, ◌++◌, Bool, true, false, Option, refl, sym, ap, ◌∙◌, append_assoc, append-nil, arith, subst}
use Rattle.std.specs.List.{flat_map}
use Rattle.std.proofs.lemmas.Str.{encodes-append}
use Rattle.gl_base.proofs.Chars.{written_more}
use Rattle.gl_base.specs.Texts.{Text, bytes_of}
use Rattle.gl_base.specs.Taking.{Takes, TakesFront}
use Rattle.gl_base.proofs.Taken.{takes_nothing, takes_more, front_more, front_of, front_whole, front_nothing}
use Rattle.gl_outside.specs.Sink.{Wanted}
use Rattle.gl_commands.specs.Lines.{IsLoud, Taken, SaysOn, Says}

at_most : (a b : ℕ) → a ≤ b → (a < b) ⊎ (a ≡ b)
at_most zero zero h = inr refl
at_most zero (suc b) h = inl (omega arith)
at_most (suc a) zero h = absurd (omega arith)
at_most (suc a) (suc b) h = elim (at_most a b (omega arith)) [ inl l ↦ inl (omega arith) | inr e ↦ inr (ap suc e) ]

loud_earlier : (f g h w x y : ℕ) → g ≤ h → x ≤ y → IsLoud f g w x → IsLoud f h w y
loud_earlier f g h w x y a b (inl l) = inl (omega arith)
loud_earlier f g h w x y a b (inr (inl l)) = inr (inl (omega arith))
loud_earlier f g h w x y a b (inr (inr l)) = inr (inr l)

loud_later : (f g h w x y : ℕ) → f ≤ g → g ≤ h → w ≤ x → x ≤ y → IsLoud g h x y → IsLoud f h w y
loud_later f g h w x y a b k l (inl m) = inl (omega arith)
loud_later f g h w x y a b k l (inr (inl m)) = inr (inl (omega arith))
loud_later f g h w x y a b k l (inr (inr (inl e))) = elim (at_most f g a) [ inl m ↦ inl (omega arith) | inr m ↦ inr (inr (inl (m ∙ e))) ]
loud_later f g h w x y a b k l (inr (inr (inr e))) = elim (at_most w x k) [ inl m ↦ inr (inl (omega arith)) | inr m ↦ inr (inr (inr (m ∙ e))) ]

-- one text after another
pub says_more : (p q r : Bool) (a b c : Option (List ℕ)) (f g h w x y : ℕ) (s t : Text) → SaysOn p q a b f g w x s → SaysOn q r b c g h x y t → SaysOn p r a c f h w y (s ++ t)
says_more p q r a b c f g h w x y s t m n = record {
  taken = λ start before k. subst (λ z. Taken r start c z) (append_assoc before s t) (n.taken start (before ++ s) (m.taken start before k));
  loud = λ e. elim (n.loud e) [ inl still ↦ elim (m.loud still) [ inl k ↦ inl k | inr k ↦ inr (loud_earlier f g h w x y n.faults_stay n.wants_stay k) ] | inr k ↦ inr (loud_later f g h w x y m.faults_stay n.faults_stay m.wants_stay n.wants_stay k) ];
  faults_stay = omega (arith, m.faults_stay, n.faults_stay);
  wants_stay = omega (arith, m.wants_stay, n.wants_stay);
}

pub says_nothing : (p : Bool) (a : Option (List ℕ)) (f w : ℕ) → SaysOn p p a a f f w w []
says_nothing p a f w = record {
  taken = λ start before k. subst (λ z. Taken p start a z) (sym (append-nil before)) k;
  loud = λ e. inl e;
  faults_stay = omega arith;
  wants_stay = omega arith;
}

-- nothing more is said where something was not taken
pub says_no_more : (a : Option (List ℕ)) (f w : ℕ) (t : Text) → SaysOn false false a a f f w w t
says_no_more a f w t = record {
  taken = λ start before k. rw (encodes-append before t) (front_of start a (bytes_of before) (bytes_of t) k);
  loud = λ e. inl refl;
  faults_stay = omega arith;
  wants_stay = omega arith;
}

-- a piece is taken
pub says_piece : (a b : Option (List ℕ)) (f g w x : ℕ) (t : Text) → Takes a b (bytes_of t) → f ≤ g → w ≤ x → SaysOn true true a b f g w x t
says_piece a b f g w x t p l m = record {
  taken = λ start before k. rw (encodes-append before t) (takes_more start a b (bytes_of before) (bytes_of t) k p);
  loud = λ e. absurd cc;
  faults_stay = l;
  wants_stay = m;
}

-- a front of a piece is taken
pub says_front : (a b : Option (List ℕ)) (f g w x : ℕ) (t : Text) → TakesFront a b (bytes_of t) → IsLoud f g w x → f ≤ g → w ≤ x → SaysOn true false a b f g w x t
says_front a b f g w x t p n l m = record {
  taken = λ start before k. rw (encodes-append before t) (front_more start a b (bytes_of before) (bytes_of t) k p);
  loud = λ e. inr n;
  faults_stay = l;
  wants_stay = m;
}

-- a piece isn't taken for want of memory
wanted_loud : (f g w x : ℕ) → Wanted f w x → IsLoud f g w x
wanted_loud f g w x (inl l) = inr (inl l)
wanted_loud f g w x (inr l) = inr (inr l)

pub says_wanted : (a b : Option (List ℕ)) (f g w x : ℕ) (t : Text) → b ≡ a → Wanted f w x → f ≤ g → w ≤ x → SaysOn true false a b f g w x t
says_wanted a b f g w x t e n l m = says_front a b f g w x t (rw e (front_nothing a (bytes_of t))) (wanted_loud f g w x n) l m

-- a whole line
pub says_line : (r : Bool) (a b : Option (List ℕ)) (f g w x : ℕ) (t : Text) → SaysOn true r a b f g w x t → Says a b f g w x t
says_line true a b f g w x t m = let all : Takes a b (bytes_of t) = m.taken a [] (takes_nothing a) in record { front = front_whole a b (bytes_of t) all; whole = λ never. all }
says_line false a b f g w x t m = record { front = m.taken a [] (takes_nothing a); whole = λ never. elim (m.loud refl) [ inl e ↦ absurd cc | inr k ↦ absurd (never k) ] }

-- a text that is said character by character: one more character is said
pub says_step : (p q r : Bool) (a b c : Option (List ℕ)) (f g h w x y : ℕ) (e : ℕ → Text) (first : ℕ) (cs : List ℕ) (k : ℕ) → SaysOn p q a b f g w x (first ∷ flat_map e cs) → SaysOn q r b c g h x y (e k) → SaysOn p r a c f h w y (first ∷ flat_map e (cs ++ k ∷ []))
says_step p q r a b c f g h w x y e first cs k m n =
    let all = says_more p q r a b c f g h w x y (first ∷ flat_map e cs) (e k) m n in
    subst (λ z. SaysOn p r a c f h w y z) (written_more e (first ∷ []) (first ∷ flat_map e cs) (first ∷ (flat_map e cs ++ e k)) cs k refl refl) all
