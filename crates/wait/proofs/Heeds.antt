-- The leader is handed a mail of another box.
use Prim.Native.Nat.{ℕ, ◌≤◌}
use mathlib.Core.Path.{◌≡◌, refl}
use mathlib.Core.Bool.{true}
use mathlib.Core.List.{List, [], ◌∷◌}
use Rattle.rules.specs.Box.{Box, Letter, mail, turn_of}
use Rattle.rules.specs.Site.{Site, setting}
use Rattle.laws.proofs.Logic.{Or}
use Rattle.laws.proofs.FormLaws.{FormedBox, FormedLetter}
use Rattle.wait.proofs.Stages.{Time, Other, Between, old-last, answer, accept, lease-ack}
use Rattle.wait.proofs.Stages.{Leading, Heeds, pn}
use Rattle.wait.proofs.HeedsLast.{old-last-heeded, last-heeded}
use Rattle.wait.proofs.HeedsNotes.{accept-heeded, lease-ack-heeded}

pub heeds : (s : Site) (c b : ℕ) (X x : Box) (y : Letter) (down up : List Letter)
    → Time s c → Other s c b → X.head.leads ≡ true → pn X ≤ 999999900
    → Or (pn x ≤ pn X) (pn x ≤ 999999800)
    → FormedBox s.n s.J c X → FormedBox s.n s.J b x → FormedLetter s.J y
    → Leading s c X → Between s X b x down (y ∷ up)
    → (down ≡ []) × (up ≡ []) × Heeds s c b X x y (turn_of (setting s c) X (mail b y))
heeds s c b X x y down up t o e h q f g m l (old-last _ p k) =
    (refl, refl, old-last-heeded s c b X x y t e p k)
heeds s c b X x y down up t o e h q f g m l (answer _ p k n r a w u) =
    (refl, refl, last-heeded s c b X x y t o e h q f m l p k n r a w)
heeds s c b X x y down up t o e h q f g m l (accept _ p k n a v) =
    (refl, refl, accept-heeded s c b X x y t o e h f l p k n a v)
heeds s c b X x y down up t o e h q f g m l (lease-ack _ p k v a) =
    (refl, refl, lease-ack-heeded s c b X x y t o e h f l p k v a)
