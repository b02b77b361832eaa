-- A whole feeding says the replay of its input; an entry has one result; and what loops need.
use Prim.Native.Nat.{ℕ, ◌+◌, ◌-◌, ◌<◌, ◌≤◌}
use mathlib.Core.Path.{◌≡◌, refl, ap, sym, ◌∙◌, subst}
use mathlib.Core.Bool.{Bool, true, false, ◌&&◌}
use mathlib.Core.List.{List, [], ◌∷◌, ◌++◌, append-nil}
use native.Mathlib.Omega.{arith}
use lib.Dec.{eqb, ltb}
use lib.ListN.{length, take, drop}
use lib.Seq.{sets, sets-eq, length-sets, take-append_seam}
use borrow.Author.Tests.{le-ltb}
use Rattle.std.proofs.Common.{Result, Ok, Err}
use Rattle.rules.specs.Pick.{pick-false}
use Rattle.rules.specs.Site.{Site}
use Rattle.rules.specs.Answers.{is_refusal}
use Rattle.rules.specs.declared.model.Refusal.{Refusal}
use Rattle.laws.proofs.Logic.{pick_elim, both-no}
use Rattle.memory.specs.Memory.{site_of}
use Rattle.lines.specs.declared.Line.{Line}
use Rattle.trace.specs.Feeding.{Feeding, byte_next, byte_text, feed_next, feed_text, end_text}
use Rattle.trace.specs.Lines.{lines_of, texts}
use Rattle.trace.specs.Replay.{first, line_next, line_text, replay}
use Rattle.trace.proofs.Pieces.{next_append, text_append, fed-from}
use Rattle.feed.specs.State.{Course, course_next, course_text, begun, feeding_of}
use Rattle.feed.specs.Says.{Feeds, taken, answer_most}
use Rattle.feed.specs.Entries.{answered_by, Unfed, PieceFed, EndSaid}
use Rattle.feed.specs.Whole.{came_of, Went, Whole}
use Rattle.feed.specs.declared.state.Fed.{Fed}
use Rattle.feed.specs.declared.state.Feed.{Feed}
use Rattle.feed.proofs.EntryLaws.{end-room}

-- ---- the site beside the run changes no text

course_texts : (ls : List Line) (c : Course)
    → texts course_next course_text c ls ≡ texts line_next line_text c.run ls
unfolding texts
course_texts [] c = refl
course_texts (l ∷ ls) c =
    ap (λ (t : List ℕ). line_text c.run l ++ t) (course_texts ls (course_next c l))

course_replay : (s : Site) (input : List ℕ) → feed_text course_next course_text (begun s) input
    ++ end_text course_text (feed_next course_next (begun s) input) ≡ replay input
unfolding replay
course_replay s input =
    fed-from course_next course_text (record { run = first; site = s }) [] input
    ∙ course_texts (lines_of input) (record { run = first; site = s })

-- ---- the text at the front of a buffer

pub front : (x y t : List ℕ) (at : ℕ) → y ≡ sets x 0 t → at ≡ length t → at ≤ length y
    → take at y ≡ t
front x y t at e l h =
    let long : length y ≡ length x = ap length e ∙ length-sets x 0 t in
    let zero : 0 + length t ≡ length t = omega arith in
    ap (λ (n : ℕ). take n y) l
    ∙ (ap (λ (b : List ℕ). take (length t) b) (e ∙ sets-eq t x 0 (omega arith))
    ∙ take-append_seam t (drop (0 + length t) x))

-- ---- what has been fed, and said of it

record Since (input output : List ℕ) (f : Feed) (xs ls : List ℕ) : Type 0 where
  site : Site
  next : feeding_of f xs ls ≡ feed_next course_next (begun site) input
  text : output ≡ feed_text course_next course_text (begun site) input

since-fed : {input output : List ℕ} {f : Feed} {xs ls piece xs' ls' before after : List ℕ}
    {g : Fed} → Since input output f xs ls → Feeds f piece xs ls xs' ls' before after g
    → Since (input ++ take g.took piece) (output ++ take g.at after) g.feed xs' ls'
since-fed {input} {output} {f} {xs} {ls} {piece} {xs'} {ls'} {before} {after} {g} w v =
    let s = begun w.site in
    let p = take g.took piece in
    record {
      site = w.site;
      next =
          v.next ∙ (ap (λ (q : Feeding Course). feed_next course_next q p) w.next
          ∙ sym (next_append course_next course_text s input p));
      text =
          ap (λ (t : List ℕ). output ++ t)
          (front before after _ g.at v.bytes v.end v.fits) ∙ (ap
          (λ (t : List ℕ). t ++ feed_text course_next course_text (feeding_of f xs ls) p) w.text
          ∙ (ap (λ (q : Feeding Course).
          feed_text course_next course_text s input ++ feed_text course_next course_text q p) w.next
          ∙ sym (text_append course_next course_text s input p)));
    }

unfed_is : (f : Feed) {xs ls xs' ls' x y : List ℕ} → Unfed xs ls xs' ls' x y
    → feeding_of f xs' ls' ≡ feeding_of f xs ls
unfed_is f {xs} {ls} {xs'} {ls'} u =
    ap (λ (m : List ℕ). feeding_of f m ls') u.site
    ∙ ap (λ (m : List ℕ). feeding_of f xs m) u.links

since_unfed : {input output : List ℕ} {f : Feed} {xs ls xs' ls' before after : List ℕ}
    (piece : List ℕ) → Since input output f xs ls → Unfed xs ls xs' ls' before after
    → Since (input ++ take 0 piece) (output ++ take 0 after) f xs' ls'
since_unfed {input} {output} {f} piece w u =
    let i = append-nil input in
    record {
      site = w.site;
      next = unfed_is f u ∙ (w.next ∙ ap (feed_next course_next (begun w.site)) (sym i));
      text =
          append-nil output
          ∙ (w.text ∙ ap (feed_text course_next course_text (begun w.site)) (sym i));
    }

since_piece : {input output : List ℕ} {f : Feed} {xs ls piece xs' ls' before after : List ℕ}
    (r : Result Fed Refusal) → Since input output f xs ls
    → PieceFed f piece xs ls xs' ls' before after r
    → Since (input ++ take (came_of f r).took piece) (output ++ take (came_of f r).at after)
    (came_of f r).feed xs' ls'
since_piece (Ok g) w v = since-fed w (v.fed g refl)
since_piece {piece = piece} (Err why) w v = since_unfed piece w (v.kept why refl)

since : {input output : List ℕ} {f : Feed} {xs ls : List ℕ} → Went input output f xs ls
    → Since input output f xs ls
unfolding feed_next feed_text
since (Went.begins {f} {xs} {ls} b) =
    record { site = site_of xs ls; next = b.next xs ls; text = refl }
since (Went.goes w v) = since_piece _ (since w) v

pub whole : Whole
whole = record {
  replays = λ {input} {output} {f} {xs} {ls} {before} {after} {at} w v.
      let z = since w in
      let s = v.said at refl xs ls in
      let t = end_text course_text (feeding_of f xs ls) in
      let room = end-room before (ap is_refusal (sym v.answer)) in
      ap (λ (u : List ℕ). output ++ u)
      (front before after t at s.bytes (omega (arith, s.end))
      (omega (arith, s.few, s.room, room))) ∙ (ap (λ (u : List ℕ). u ++ t) z.text ∙ (ap
      (λ (q : Feeding Course).
      feed_text course_next course_text (begun z.site) input ++ end_text course_text q) z.next
      ∙ course_replay z.site input));
}

-- ---- what a loop over a piece needs: no more than the piece is taken, and some of it

pub taken-part : (p : List ℕ) (r : ℕ) (s : Feeding Course) → taken r s p ≤ length p
unfolding taken
taken-part [] r s = omega arith
taken-part (b ∷ p) r s =
    pick_elim (λ (n : ℕ). n ≤ length (b ∷ p)) (eqb b 10 && ltb r answer_most) (λ e. omega arith)
    (λ e.
    omega (
      arith,
      taken-part p (r - length (byte_text course_text s b))
          (byte_next course_next s b),
    ))

and-false : (b : Bool) → (b && false) ≡ false
and-false true = refl
and-false false = refl

pub taken-some : (p : List ℕ) (r : ℕ) (s : Feeding Course) → answer_most ≤ r → 0 < length p
    → 0 < taken r s p
unfolding taken
taken-some [] r s h l = absurd (omega arith)
taken-some (b ∷ p) r s h l =
    let no : (eqb b 10 && ltb r answer_most) ≡ false =
    ap (λ (c : Bool). eqb b 10 && c) (le-ltb r answer_most h) ∙ and-false (eqb b 10) in
    subst (λ (n : ℕ). 0 < n) (sym (pick-false _ _ _ no)) (omega arith)

pub piece_fits : {f : Feed} {piece xs ls xs' ls' x y : List ℕ} {r : Result Fed Refusal} {g : Fed}
    → r ≡ Ok g → PieceFed f piece xs ls xs' ls' x y r
    → (g.at ≤ length y) × (g.took ≤ length piece)
piece_fits {f} {piece} {xs} {ls} {x = x} {g = g} e w =
    let v = w.fed g e in
    (v.fits, omega (arith, v.took, taken-part piece (length x) (feeding_of f xs ls)))

pub end_fits : {f : Feed} {x y : List ℕ} {r : Result ℕ Refusal} {at : ℕ} → r ≡ Ok at
    → EndSaid f x y r → at ≤ length y
end_fits {x = x} {at = at} e w =
    let v = w.said at e [] [] in
    let room = end-room x (ap is_refusal (sym w.answer ∙ ap answered_by e)) in
    omega (arith, v.few, v.room, room)

-- ---- one result: what two results of a call can differ in says nothing

-- the same answer, as much taken, the same bytes; and the same run, so the same from there on
pub record Same (f : Feed) (xs ls x : List ℕ) (r : Result Fed Refusal) (ys ms y : List ℕ)
    (s : Result Fed Refusal) : Type 0 where
  pub answer : answered_by r ≡ answered_by s
  pub took : (came_of f r).took ≡ (came_of f s).took
  pub end : (came_of f r).at ≡ (came_of f s).at
  pub bytes : x ≡ y
  pub next : feeding_of (came_of f r).feed xs ls ≡ feeding_of (came_of f s).feed ys ms

pub once : {f : Feed} {piece xs ls xs' ls' ys ms x y z : List ℕ} (r s : Result Fed Refusal)
    → PieceFed f piece xs ls xs' ls' x y r → PieceFed f piece xs ls ys ms x z s
    → Same f xs' ls' y r ys ms z s
once {f} {piece} {xs} {ls} {x = x} (Ok g) (Ok h) v w =
    let p = v.fed g refl in
    let q = w.fed h refl in
    let s = feeding_of f xs ls in
    let t : g.took ≡ h.took = p.took ∙ sym q.took in
    let text : ℕ → List ℕ = λ n. feed_text course_next course_text s (take n piece) in
    record {
      answer = refl;
      took = t;
      end = p.end ∙ ap (λ (n : ℕ). length (text n)) t ∙ sym q.end;
      bytes = p.bytes ∙ ap (λ (n : ℕ). sets x 0 (text n)) t ∙ sym q.bytes;
      next = p.next ∙ ap (λ (n : ℕ). feed_next course_next s (take n piece)) t ∙ sym q.next;
    }
once (Ok g) (Err why) v w = absurd (both-no refl (ap is_refusal (w.answer ∙ sym v.answer)))
once (Err why) (Ok h) v w = absurd (both-no refl (ap is_refusal (v.answer ∙ sym w.answer)))
once {f} (Err why) (Err because) v w =
    let p = v.kept why refl in
    let q = w.kept because refl in
    record {
      answer = v.answer ∙ sym w.answer;
      took = refl;
      end = refl;
      bytes = p.bytes ∙ sym q.bytes;
      next = unfed_is f p ∙ sym (unfed_is f q);
    }

-- where what the end says ends; nothing is said where it is refused
abbrev pub end_of : Result ℕ Refusal → ℕ
end_of (Ok at) = at
end_of (Err why) = 0

pub end-once : {f : Feed} {x y z : List ℕ} (d e : Result ℕ Refusal) → EndSaid f x y d
    → EndSaid f x z e → (answered_by d ≡ answered_by e) × (end_of d ≡ end_of e) × (y ≡ z)
end-once (Ok a) (Ok b) v w =
    let p = v.said a refl [] [] in
    let q = w.said b refl [] [] in
    (refl, p.end ∙ sym q.end, p.bytes ∙ sym q.bytes)
end-once (Ok a) (Err why) v w = absurd (both-no refl (ap is_refusal (w.answer ∙ sym v.answer)))
end-once (Err why) (Ok b) v w = absurd (both-no refl (ap is_refusal (v.answer ∙ sym w.answer)))
end-once (Err why) (Err because) v w =
    (v.answer ∙ sym w.answer, refl, v.kept why refl ∙ sym (w.kept because refl))
