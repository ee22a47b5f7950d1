-- The words of a term: as many as the term has nodes, and no list begins with the words of two terms. For the second, read the
-- list from its end: each word takes the terms built last as its parts, so the words of `t` put just `t` on those built after it, if its
-- indices have words of their own. In a term that fits a context they do.
use Prim.Native.Nat.{ℕ, suc, ◌+◌, ◌-◌, ◌≤◌, ◌<◌}
use mathlib.Core.Bool.{cond}
use mathlib.Core.List.{List, [], ◌∷◌, ◌++◌, append_cancel_left, head-eq_of_cons-eq}
use mathlib.Core.Path.{◌≡◌, refl, sym, ap, ◌∙◌}
use native.Mathlib.Nat.{add-sub_cancel_left}
use native.Mathlib.Omega.{arith}
use lib.Dec.{ltb}
use lib.ListN.{length}
use Rattle.calculus.specs.Term.{Term, var, star, app, lam, pi, castup, castdown, mu, name, size}
use Rattle.calculus.specs.Words.{emit, words, Scoped, Worded, Codes}
use Rattle.calculus.specs.Meaning.{meaning}
use Rattle.calculus.specs.Scan.{node, node₁, node₂}
use Rattle.calculus.specs.Reads.{PrefixFree}
use Rattle.calculus.proofs.Comparisons.{le_leb, gt_leb}

emit_before : (t : Term) (j k : List ℕ) → emit t (j ++ k) ≡ emit t j ++ k
unfolding emit
emit_before (var i) j k = refl
emit_before star j k = refl
emit_before (app f u) j k = ap (λ ws. 2 ∷ ws) (ap (emit f) (emit_before u j k) ∙ emit_before f (emit u j) k)
emit_before (lam a e) j k = ap (λ ws. 4 ∷ ws) (ap (emit a) (emit_before e j k) ∙ emit_before a (emit e j) k)
emit_before (pi a b) j k = ap (λ ws. 5 ∷ ws) (ap (emit a) (emit_before b j k) ∙ emit_before a (emit b j) k)
emit_before (castup a e) j k = ap (λ ws. 3 ∷ ws) (ap (emit a) (emit_before e j k) ∙ emit_before a (emit e j) k)
emit_before (castdown e) j k = ap (λ ws. 1 ∷ ws) (emit_before e j k)
emit_before (mu a e) j k = ap (λ ws. 6 ∷ ws) (ap (emit a) (emit_before e j k) ∙ emit_before a (emit e j) k)
emit_before (name i) j k = refl

pub emit_append : (t : Term) (k : List ℕ) → emit t k ≡ words t ++ k
unfolding words
emit_append t k = emit_before t [] k

pub emit_length : (t : Term) (k : List ℕ) → length (emit t k) ≡ size t + length k
unfolding emit size
emit_length (var i) k = omega arith
emit_length star k = omega arith
emit_length (app f u) k = omega (arith, emit_length f (emit u k), emit_length u k)
emit_length (lam a e) k = omega (arith, emit_length a (emit e k), emit_length e k)
emit_length (pi a b) k = omega (arith, emit_length a (emit b k), emit_length b k)
emit_length (castup a e) k = omega (arith, emit_length a (emit e k), emit_length e k)
emit_length (castdown e) k = omega (arith, emit_length e k)
emit_length (mu a e) k = omega (arith, emit_length a (emit e k), emit_length e k)
emit_length (name i) k = omega arith

pub words_length : (t : Term) → length (words t) ≡ size t
unfolding words
words_length t = omega (arith, emit_length t [])

pub size_positive : (t : Term) → 1 ≤ size t
unfolding size
size_positive (var i) = omega arith
size_positive star = omega arith
size_positive (app f u) = omega arith
size_positive (lam a e) = omega arith
size_positive (pi a b) = omega arith
size_positive (castup a e) = omega arith
size_positive (castdown e) = omega arith
size_positive (mu a e) = omega arith
size_positive (name i) = omega arith

-- A term of at most 2,032 nodes and variables around it has only indices that have words: a binder is a node.
pub worded : (n : ℕ) (t : Term) → Scoped n t → n + size t ≤ 2032 → Worded t
unfolding Scoped Worded size
worded n (var i) s h = omega arith
worded n star s h = tt
worded n (app f u) s h = (worded n f s.0 (omega arith), worded n u s.1 (omega arith))
worded n (lam a e) s h = (worded n a s.0 (omega arith), worded (suc n) e s.1 (omega arith))
worded n (pi a b) s h = (worded n a s.0 (omega arith), worded (suc n) b s.1 (omega arith))
worded n (castup a e) s h = (worded n a s.0 (omega arith), worded n e s.1 (omega arith))
worded n (castdown e) s h = worded n e s (omega arith)
worded n (mu a e) s h = (worded n a s.0 (omega arith), worded (suc n) e s.1 (omega arith))
worded n (name i) s h = tt

-- The term of a word without parts, whatever its index or name.
leaf : ℕ → Term
leaf w = cond (ltb w 2048) (var (w - 16)) (name (w - 2048))

build : List ℕ → List Term
build [] = []
build (w ∷ ws) = cond (ltb w 16) (node (meaning w) (build ws)) (leaf w ∷ build ws)

build_variable : (i : ℕ) (k : List ℕ) → i < 2032 → build ((16 + i) ∷ k) ≡ var i ∷ build k
unfolding build leaf
build_variable i k h =
    rw (gt_leb (suc (16 + i)) 16 (omega arith), le_leb (suc (16 + i)) 2048 (omega arith), add-sub_cancel_left 16 i) refl

build_name : (i : ℕ) (k : List ℕ) → build ((2048 + i) ∷ k) ≡ name i ∷ build k
unfolding build leaf
build_name i k =
    rw (gt_leb (suc (2048 + i)) 16 (omega arith), gt_leb (suc (2048 + i)) 2048 (omega arith), add-sub_cancel_left 2048 i) refl

build_emit : (t : Term) (k : List ℕ) → Worded t → build (emit t k) ≡ t ∷ build k
unfolding build emit meaning node node₁ node₂ Worded
build_emit (var i) k h = build_variable i k h
build_emit star k h = refl
build_emit (app f u) k (h, l) = ap (node₂ app) (build_emit f (emit u k) h ∙ ap (λ ts. f ∷ ts) (build_emit u k l))
build_emit (lam a e) k (h, l) = ap (node₂ lam) (build_emit a (emit e k) h ∙ ap (λ ts. a ∷ ts) (build_emit e k l))
build_emit (pi a b) k (h, l) = ap (node₂ pi) (build_emit a (emit b k) h ∙ ap (λ ts. a ∷ ts) (build_emit b k l))
build_emit (castup a e) k (h, l) = ap (node₂ castup) (build_emit a (emit e k) h ∙ ap (λ ts. a ∷ ts) (build_emit e k l))
build_emit (castdown e) k h = ap (node₁ castdown) (build_emit e k h)
build_emit (mu a e) k (h, l) = ap (node₂ mu) (build_emit a (emit e k) h ∙ ap (λ ts. a ∷ ts) (build_emit e k l))
build_emit (name i) k h = build_name i k

emit_prefix_free : (s t : Term) {j k : List ℕ} → Worded s → Worded t → emit s j ≡ emit t k → (s ≡ t) × (j ≡ k)
emit_prefix_free s t {j} {k} hs ht h = (same, append_cancel_left (words t) j k rest)
  where
    same : s ≡ t
    same = head-eq_of_cons-eq (sym (build_emit s j hs) ∙ ap build h ∙ build_emit t k ht)

    rest : words t ++ j ≡ words t ++ k
    rest = sym (emit_append t j) ∙ ap (λ r. emit r j) (sym same) ∙ h ∙ emit_append t k

pub prefix_free : PrefixFree
prefix_free s t j k hs ht h = emit_prefix_free s t hs ht (emit_append s j ∙ h ∙ sym (emit_append t k))

pub words_injective : (s t : Term) → Worded s → Worded t → words s ≡ words t → s ≡ t
unfolding words
words_injective s t hs ht h = (emit_prefix_free s t hs ht h).0

pub codes_worded : {n : ℕ} {ws : List ℕ} {t : Term} → Codes n ws t → Worded t
codes_worded {t = t} h = worded 0 t h.1.closed (omega (arith, h.1.short))

pub codes_one : {m n : ℕ} {ws : List ℕ} {s t : Term} → Codes m ws s → Codes n ws t → s ≡ t
codes_one {s = s} {t} h k = words_injective s t (codes_worded h) (codes_worded k) (sym h.0 ∙ k.0)
