-- Reading statements one after another.
use Rattle.std.proofs.Common.{◌≡◌, ◌<◌, ◌≤◌, ◌-◌, ℕ, zero, suc, List, [], ◌∷◌, ◌++◌, Bool, true, false, ◌||◌, Option, Some, None, length, drop, refl, sym, ap, ◌∙◌, arith, append_assoc, append-nil}
use Rattle.std.specs.Prelude.{codes}
use Rattle.gl_base.specs.Answers.{◌>>=◌}
use Rattle.gl_ast.specs.Grammar.{is_silent}
use Rattle.gl_ast.specs.Template.{Stmt}
use Rattle.gl_ast.specs.declared.token.Token.{Token}
use Rattle.gl_ast.specs.declared.token.TokenKind.TheVariants as k
use Rattle.gl_parse.specs.ReadStmt.{Reader, ends_body, is_end, stands_silent, stands_opened, read_stmts, read_body, read_nested, read_flat, read_block_with, read_slots, read_stmt, read_filling, read_chained}
use Rattle.gl_exprs.specs.Fault.{Fails}
use Rattle.gl_exprs.specs.Take.{Taken, stands, stands_word}
use Rattle.gl_exprs.specs.declared.fault.Misread.{Misread}
use Rattle.gl_exprs.specs.declared.fault.Misread.TheVariants as v
use Rattle.gl_exprs.proofs.FirstTokens.{stands_is, and_true}

-- what was read before, and what is read then
abbrev pub after_stmts : List Stmt → Taken (List Stmt) → Taken (List Stmt)
after_stmts list read = read >>= λ more. Some (list ++ more.0, more.1)

-- With the statements read so far, what is left gives all. The count is at least that of the tokens.
abbrev pub Goes : Reader Stmt → List Stmt → List Token → Taken (List Stmt) → Type 0
Goes one list ts all = (n : ℕ) × (length ts ≤ n) × (after_stmts list (read_stmts one n ts) ≡ all)

after_none : (read : Taken (List Stmt)) → after_stmts [] read ≡ read
after_none None = refl
after_none (Some x) = refl

after_one : (list : List Stmt) (s : Stmt) (read : Taken (List Stmt)) → after_stmts (list ++ s ∷ []) read ≡ after_stmts list (read >>= λ more. Some (s ∷ more.0, more.1))
after_one list s None = refl
after_one list s (Some x) = ap (λ l. Some (l, x.1)) (append_assoc list (s ∷ []) x.0)

pub goes_start : (one : Reader Stmt) (ts : List Token) → Goes one [] ts (read_stmts one (length ts) ts)
goes_start one ts = (length ts, omega arith, after_none (read_stmts one (length ts) ts))

pub goes_silent : (one : Reader Stmt) (list : List Stmt) (ts : List Token) (all : Taken (List Stmt)) → stands_silent ts ≡ true → Goes one list ts all → Goes one list (drop 1 ts) all
unfolding read_stmts
goes_silent one list [] all is g = let r : ⊥ = cc in absurd r
goes_silent one list (t ∷ ts) all is (zero, h, e) = absurd (omega (arith, h))
goes_silent one list (t ∷ ts) all is (suc n, h, e) = (n, omega (arith, h), rw is at e)

pub goes_on : (one : Reader Stmt) (list : List Stmt) (ts us : List Token) (s : Stmt) (all : Taken (List Stmt)) → is_end ts ≡ false → stands_silent ts ≡ false → one ts ≡ Some (s, us) → length us < length ts → Goes one list ts all → Goes one (list ++ s ∷ []) us all
unfolding read_stmts
goes_on one list [] us s all more loud read falls g = let r : ⊥ = cc in absurd r
goes_on one list (t ∷ ts) us s all more loud read falls (zero, h, e) = absurd (omega (arith, h))
goes_on one list (t ∷ ts) us s all more loud read falls (suc n, h, e) = (n, omega (arith, h, falls), after_one list s (read_stmts one n us) ∙ rw (loud, more, read) at e)

pub goes_fail : (one : Reader Stmt) (list : List Stmt) (ts : List Token) (all : Taken (List Stmt)) → is_end ts ≡ false → stands_silent ts ≡ false → one ts ≡ None → Goes one list ts all → all ≡ None
unfolding read_stmts
goes_fail one list [] all more loud read g = let r : ⊥ = cc in absurd r
goes_fail one list (t ∷ ts) all more loud read (zero, h, e) = absurd (omega (arith, h))
goes_fail one list (t ∷ ts) all more loud read (suc n, h, e) = sym (rw (loud, more, read) at e)

-- no silent token ends a body
end_case : (t : Token) (ts : List Token) (a b c : Bool) → stands k.EndTag (t ∷ ts) ≡ a → stands k.OpenClosing (t ∷ ts) ≡ b → stands_opened (codes "else") (t ∷ ts) ≡ c → (a || b || c) ≡ true → is_silent t ≡ false
unfolding stands_opened
end_case t ts true b c e f g h = let m = stands_is k.EndTag (t ∷ ts) e in let same : t ≡ m.0 = cc (m.2) in rw (same, m.3) refl
end_case t ts false true c e f g h = let m = stands_is k.OpenClosing (t ∷ ts) f in let same : t ≡ m.0 = cc (m.2) in rw (same, m.3) refl
end_case t ts false false true e f g h =
    let both = and_true (stands k.OpenMustache (t ∷ ts)) (stands_word (codes "else") (drop 1 (t ∷ ts))) g in
    let m = stands_is k.OpenMustache (t ∷ ts) both.0 in
    let same : t ≡ m.0 = cc (m.2) in
    rw (same, m.3) refl
end_case t ts false false false e f g h = let r : ⊥ = cc in absurd r

end_loud : (t : Token) (ts : List Token) → ends_body (t ∷ ts) ≡ true → is_silent t ≡ false
unfolding ends_body
end_loud t ts e = end_case t ts (stands k.EndTag (t ∷ ts)) (stands k.OpenClosing (t ∷ ts)) (stands_opened (codes "else") (t ∷ ts)) refl refl refl e

pub goes_end : (one : Reader Stmt) (list : List Stmt) (ts : List Token) (all : Taken (List Stmt)) → is_end ts ≡ true → Goes one list ts all → all ≡ Some (list, ts)
unfolding read_stmts
goes_end one list [] all ends (zero, h, e) = sym e ∙ ap (λ l. Some (l, [])) (append-nil list)
goes_end one list [] all ends (suc n, h, e) = sym e ∙ ap (λ l. Some (l, [])) (append-nil list)
goes_end one list (t ∷ ts) all ends (zero, h, e) = absurd (omega (arith, h))
goes_end one list (t ∷ ts) all ends (suc n, h, e) = sym (rw (end_loud t ts ends, ends) at e) ∙ ap (λ l. Some (l, t ∷ ts)) (append-nil list)

-- at no depth, and deeper
pub at_depth : (depth : ℕ) (ts : List Token) → 0 < depth → read_stmt depth ts ≡ read_nested (read_body (read_stmt (depth - 1))) (read_filling (depth - 1)) (read_block_with (read_stmt (depth - 1)) (read_chained (depth - 1))) ts
unfolding read_stmt
at_depth zero ts h = absurd (omega (arith, h))
at_depth (suc depth) ts h = let e : suc depth - 1 ≡ depth = omega arith in rw e refl

pub at_none : (depth : ℕ) (ts : List Token) → depth ≤ 0 → read_stmt depth ts ≡ read_flat ts
unfolding read_stmt
at_none zero ts h = refl
at_none (suc depth) ts h = absurd (omega (arith, h))

pub chained_at_depth : (depth : ℕ) (ts : List Token) → 0 < depth → read_chained depth ts ≡ read_block_with (read_stmt (depth - 1)) (read_chained (depth - 1)) ts
unfolding read_chained
chained_at_depth zero ts h = absurd (omega (arith, h))
chained_at_depth (suc depth) ts h = let e : suc depth - 1 ≡ depth = omega arith in rw e refl

pub chained_at_none : (depth : ℕ) (ts : List Token) → depth ≤ 0 → read_chained depth ts ≡ None
unfolding read_chained
chained_at_none zero ts h = refl
chained_at_none (suc depth) ts h = absurd (omega (arith, h))

pub filling_at_depth : (depth : ℕ) (ts : List Token) → 0 < depth → read_filling depth ts ≡ read_slots (read_body (read_stmt (depth - 1))) ts
unfolding read_filling
filling_at_depth zero ts h = absurd (omega (arith, h))
filling_at_depth (suc depth) ts h = let e : suc depth - 1 ≡ depth = omega arith in rw e refl

pub filling_at_none : (depth : ℕ) (ts : List Token) → depth ≤ 0 → read_filling depth ts ≡ None
unfolding read_filling
filling_at_none zero ts h = refl
filling_at_none (suc depth) ts h = absurd (omega (arith, h))

-- nothing that goes on after a reading can be read, where that can't
pub fails_on : {A B : Type 0} (e : Misread) (o : Option A) (p : Option B) → (o ≡ None → p ≡ None) → Fails e o → Fails e p
fails_on v.NotSpelled o p h f = h f
fails_on v.Memory o p h f = f
