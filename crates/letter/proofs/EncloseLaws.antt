-- A place that is filled with a mail and its records holds that letter.
use mathlib.Core.Path.{◌≡◌, refl, sym, ap, ◌∙◌}
use mathlib.Core.Bool.{true}
use mathlib.Core.List.{List, ◌++◌}
use Prim.Native.Nat.{ℕ, ◌+◌, ◌≤◌, ◌<◌}
use native.Mathlib.Omega.{arith}
use borrow.Author.Tests.{le-leb}
use lib.ListN.{length, drop, length-append, length-drop}
use lib.Seq.{take-length, take_at, drop-cons}
use Rattle.words.specs.Rows.{part, splice}
use Rattle.words.proofs.PartLaws.{length_part, length-splice}
use Rattle.rules.specs.Every.{all}
use Rattle.rules.specs.Box.{enclosed}
use Rattle.rules.specs.declared.model.Kind.{Kind}
use Rattle.rules.specs.declared.model.Mail.{Mail}
use Rattle.letter.specs.Place.{letter_at, place_fits, words_of_mail, head_words}
use Rattle.letter.specs.Lent.{agreed_of, enclosed_from, enclosed_count, Encloses, Enclosed}
use Rattle.letter.proofs.KindLaws.{kind-back, kind-in}

-- The records that go with a mail are a part of those held.
pub enclosed-part : (k : Kind) (l : ℕ) (rs : List ℕ)
    → enclosed_from k l + enclosed_count k l (length rs) ≤ length rs
    → enclosed k l rs ≡ part rs (enclosed_from k l) (enclosed_count k l (length rs))
unfolding enclosed
enclosed-part Kind.Collect l rs h = refl
enclosed-part Kind.Last l rs h = sym (take-length rs)
enclosed-part Kind.Begin l rs h = let b : l < length rs = omega arith in rw (drop-cons rs l 0)
enclosed-part Kind.Accept l rs h = refl
enclosed-part Kind.Commit l rs h = refl
enclosed-part Kind.Lease l rs h = refl
enclosed-part Kind.LeaseAck l rs h = refl

-- How many they are.
pub count-enclosed : (k : Kind) (l : ℕ) (rs : List ℕ)
    → enclosed_from k l + enclosed_count k l (length rs) ≤ length rs
    → length (enclosed k l rs) ≡ enclosed_count k l (length rs)
count-enclosed k l rs h = ap length (enclosed-part k l rs h)
    ∙ length_part (enclosed_from k l) _ rs h

module _ (p : List ℕ) (m : Mail) (ys : List ℕ) (count : ℕ) (long : length ys ≡ count) where
  -- the place, its words written and then its records
  abbrev pub filled : List ℕ
  filled = splice (words_of_mail m count ++ drop head_words p) head_words count ys

  pub filled-letter : letter_at filled ≡ record { head = m; records = ys }
  filled-letter = λ i. record {
    head = record {
      kind = kind-back m.kind i;
      pn = m.pn;
      last = m.last;
      first = m.first;
      unagreed = m.unagreed;
    };
    records = take_at ys (drop count (drop head_words p)) count long i;
  }

  module _ (room : head_words + count ≤ length p) where
    filled-length : length filled ≡ length p
    filled-length =
        let ws = words_of_mail m count ++ drop head_words p in
        let e : length ws ≡ length p = simp (length-append, length-drop) (omega arith) in
        length-splice head_words count ws ys (omega arith) long ∙ e

    pub filled-fits : (J : ℕ) → length p ≡ head_words + J → place_fits J filled ≡ true
    unfolding place_fits all
    filled-fits J e = rw (kind-in m.kind, le-leb count J (omega arith))

-- What the code of `enclose` has written is the letter.
pub enclose_law : (p : List ℕ) (m : Mail) (rs : List ℕ) → Encloses p m rs
    → (from count : ℕ) (ws q : List ℕ)
    → from ≡ enclosed_from m.kind (agreed_of m)
    → count ≡ enclosed_count m.kind (agreed_of m) (length rs)
    → ws ≡ words_of_mail m count
    → q ≡ splice (ws ++ drop head_words p) head_words count (part rs from count)
    → Enclosed p m rs q
enclose_law p m rs ok from count ws q ef ec ew eq =
    let k = m.kind in
    let l = agreed_of m in
    let long = count-enclosed k l rs ok.held in
    rw (eq, ew, ef, ec, ← enclosed-part k l rs ok.held)
    (record {
      letter = filled-letter p m (enclosed k l rs) (enclosed_count k l (length rs)) long;
      words = filled-length p m (enclosed k l rs) (enclosed_count k l (length rs)) long ok.room;
      fits = filled-fits p m (enclosed k l rs) (enclosed_count k l (length rs)) long ok.room;
    })
