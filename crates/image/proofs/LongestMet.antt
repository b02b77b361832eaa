-- The longest image is one: that of a site whose books and links are full.
use mathlib.Core.Path.{◌≡◌, refl, ap, ◌∙◌}
use mathlib.Core.Bool.{true}
use Prim.Native.Nat.{ℕ, zero, suc, ◌+◌, ◌-◌, ◌*◌, ◌≤◌, ◌<◌}
use native.Mathlib.Nat.{suc-mul}
use native.Mathlib.Omega.{arith}
use mathlib.Core.List.{List, [], ◌∷◌}
use lib.ListN.{length, get_or, replicate, length-replicate}
use Rattle.rules.specs.Sizes.{most_loads, sizes_form, record_of, proper}
use Rattle.rules.specs.Sets.{full_set}
use Rattle.rules.specs.Fields.{with_kept}
use Rattle.rules.specs.Box.{Box, Letter}
use Rattle.rules.specs.Site.{Site, fresh_head, fresh_box}
use Rattle.rules.specs.Form.{form}
use Rattle.laws.proofs.Types.{Kind}
use Rattle.laws.proofs.Logic.{left, both-no}
use Rattle.laws.proofs.Logic as logic
use Rattle.laws.proofs.SetLaws.{set_full, set-zero}
use Rattle.laws.proofs.FormLaws.{Proper, FormedFirst, HeldCount, FormedLetter, FormedBox}
use Rattle.laws.proofs.FormLaws.{sizes-says, form-made}
use Rattle.laws.proofs.StoreForm.{box-of, none-form, unknown-form}
use Rattle.cells.specs.Cells.{All, Each}
use Rattle.cells.proofs.ChainLaws.{each-made}
use Rattle.image.specs.Image.{boxes_of, links_of, image_of}
use Rattle.image.specs.Longest.{box_long, letter_long, link_long, longest}
use Rattle.image.proofs.OrderLaws.{length-boxes, boxes-at, length-links, all-links}
use Rattle.image.proofs.RecordLaws.{all_of}
use Rattle.image.proofs.Lengths.{total, box_length, letter_length, link_length, image_length}
use Rattle.image.proofs.Lengths.{form-length}

-- J records, of the frames 1 and 1
abbrev book : ℕ → List ℕ
book J = replicate J (record_of 1 1)

abbrev full_box : ℕ → Box
full_box J = record {
  head = with_kept
      (record { pn = 0; last = J; first = 1; stored = record { pn = 0; number = 0 } }) fresh_head;
  records = book J;
}

abbrev full_letter : ℕ → Letter
full_letter J = record {
  head = record { kind = Kind.Commit; pn = 0; last = J; first = 1; unagreed = 0 };
  records = book J;
}

abbrev pub full : ℕ → ℕ → ℕ → Site
full n J L = record {
  n = n;
  J = J;
  L = L;
  epoch = 1;
  present = full_set n;
  box = λ b. full_box J;
  link = λ a b. replicate L (full_letter J);
}

-- ---- it is by form

all_same {ℓ} : {A : Type ℓ} (P : A → Type 0) (x : A) (k : ℕ) → P x → logic.All P (replicate k x)
all_same P x zero p = logic.nil
all_same P x (suc k) p = logic.cons p (all_same P x k p)

module _ (n J L : ℕ) (e : sizes_form n J L ≡ true) where
  one : Proper (record_of 1 1)
  unfolding proper
  one = refl

  records : logic.All Proper (book J)
  records = all_same Proper (record_of 1 1) J one

  few : J ≤ most_loads
  few = (sizes-says e).few-loads

  count : length (book J) ≡ J
  count = length-replicate J (record_of 1 1)

  first : FormedFirst 1 J
  first = record { some = omega arith; top = omega arith }

  held : HeldCount J 1 J (length (book J))
  held = record {
    all = omega (arith, count);
    next = omega (arith, count);
    most = omega (arith, count);
    room = omega (arith, count);
  }

  box : (b : ℕ) → FormedBox n J b (full_box J)
  unfolding fresh_head
  box b =
      box-of
      (record {
        last = omega (arith, few);
        first = first;
        held = held;
        records = records;
        pn = omega arith;
        stored-pn = omega arith;
        stored-number = omega arith;
      })
      none-form (set-zero n) (set-zero n) (set-zero n) (left refl) (left refl) (unknown-form n b)

  letter : FormedLetter J (full_letter J)
  letter = record {
    kind = record {
      first = first;
      all-records = omega (arith, count);
      room = omega (arith, count);
      no-unagreed = refl;
    };
    records = records;
    pn = omega arith;
    unagreed = omega arith;
    last = omega (arith, few);
  }

  pub full-form : form (full n J L) ≡ true
  unfolding fresh_head
  full-form = form-made (record {
    sizes = sizes-says e;
    some-epoch = omega arith;
    few_epochs = omega arith;
    present = set_full n;
    boxes = λ b h. box b;
    one-leader = λ i j hi hj p q. absurd (both-no p refl);
    links = λ a b ha hb ab. record {
      room = omega (arith, length-replicate L (full_letter J));
      letters = all_same (FormedLetter J) (full_letter J) L letter;
    };
  })

-- ---- it is that long

-- Things of length k each ..
total-each {ℓ} : {A : Type ℓ} (f : A → ℕ) (k : ℕ) (l : List A) → All (λ x. f x ≡ k) l
    → total f l ≡ length l * k
unfolding total Each
total-each f k [] h = omega arith
total-each f k (x ∷ l) h = omega (arith, suc-mul (length l) k, h.0, total-each f k l h.1)

-- .. m of them.
total-same {ℓ} : {A : Type ℓ} (f : A → ℕ) (k m : ℕ) (l : List A) → length l ≡ m
    → All (λ x. f x ≡ k) l → total f l ≡ m * k
total-same f k m l e h = total-each f k l h ∙ ap (λ (i : ℕ). i * k) e

module _ (n J L : ℕ) (e : sizes_form n J L ≡ true) where
  abbrev s : Site
  s = full n J L

  boxes : total (box_length n) (boxes_of s) ≡ n * box_long n J
  boxes =
      total-same (box_length n) (box_long n J) n (boxes_of s) (length-boxes s)
      (each-made (λ i x. box_length n x ≡ box_long n J) (boxes_of s) fresh_box at)
    where
      at : (i : ℕ) → i < length (boxes_of s)
          → box_length n (get_or (boxes_of s) i fresh_box) ≡ box_long n J
      at i h =
          rw (boxes-at s i fresh_box (omega (arith, length-boxes s)))
          (ap (box_long n) (length-replicate J (record_of 1 1)))

  link : link_length (replicate L (full_letter J)) ≡ link_long J L
  link =
      ap (λ (k : ℕ). 4 + k)
      (total-same letter_length (letter_long Kind.Commit J) L (replicate L (full_letter J))
      (length-replicate L (full_letter J))
      (all_of
      (all_same (λ y. letter_length y ≡ letter_long Kind.Commit J) (full_letter J) L
      (ap (letter_long Kind.Commit) (length-replicate J (record_of 1 1))))))

  links : total link_length (links_of s) ≡ n * (n - 1) * link_long J L
  links =
      total-same link_length (link_long J L) (n * (n - 1)) (links_of s) (length-links s)
      (all-links s (λ ys. link_length ys ≡ link_long J L) (λ a b ha hb ab. link))

  pub full-long : length (image_of (full n J L)) ≡ longest n J L
  unfolding image_length longest
  full-long = form-length s (full-form n J L e) ∙ omega (arith, boxes, links)
