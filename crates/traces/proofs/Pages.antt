-- A buffer that is written from its front on, one text after another.
use Rattle.std.proofs.Common.{◌≡◌, ℕ, ◌+◌, ◌<◌, ◌≤◌, List, ◌++◌, length, take, get_or, sym, refl, ap, ◌∙◌, subst, arith}
use Rattle.std.proofs.lemmas.List.{length-append, take_all}
use Rattle.std.specs.List.{flat_map}
use Rattle.traces.specs.declared.page.Page.{Page}
use Rattle.traces.specs.Pages.{Room, Wrote}
use Rattle.traces.proofs.Writing.{put_more, put_length, joined_step, joined_front}

pub room_is : {xs ys : List ℕ} {p : Page} → xs ≡ ys → Room xs p → Room ys p
room_is {p = p} e r = subst (λ t. Room t p) e r

pub wrote_is : {xs ys : List ℕ} {p q : Page} → xs ≡ ys → Wrote xs p q → Wrote ys p q
wrote_is {p = p} {q = q} e w = subst (λ t. Wrote t p q) e w

-- a text that is two, one after the other
module _ {text : List ℕ} (xs ys : List ℕ) (is : xs ++ ys ≡ text) {p : Page} (room : Room text p) where
  long : length xs + length ys ≡ length text
  long = sym (length-append xs ys) ∙ ap length is

  pub room_first : Room xs p
  room_first = record { fits = omega (arith, room.fits, long) }

  module _ {q : Page} (w : Wrote xs p q) where
    pub room_next : Room ys q
    room_next = record { fits = omega (arith, room.fits, long, w.place, put_length p.at xs p.out.now q.out.now w.bytes room_first.fits) }

    pub wrote_both : {r : Page} → Wrote ys q r → Wrote text p r
    wrote_both {r} v = wrote_is is (record {
      same_buffer = v.same_buffer ∙ w.same_buffer;
      place = omega (arith, w.place, v.place, length-append xs ys);
      bytes = put_more p.at q.at xs ys p.out.now q.out.now r.out.now w.place w.bytes v.bytes (omega (arith, room.fits, long));
    })

-- a text that is four
pub record Four (text ws xs ys zs : List ℕ) : Type 0 where
  pub is : ((ws ++ xs) ++ ys) ++ zs ≡ text

pub length_four : {text ws xs ys zs : List ℕ} → Four text ws xs ys zs → length text ≡ length ws + length xs + length ys + length zs
length_four {ws = ws} {xs = xs} {ys = ys} {zs = zs} parts = omega (arith, ap length parts.is, length-append ((ws ++ xs) ++ ys) zs, length-append (ws ++ xs) ys, length-append ws xs)

module _ {text ws xs ys zs : List ℕ} (parts : Four text ws xs ys zs) {p : Page} (room : Room text p) where
  three : Room ((ws ++ xs) ++ ys) p
  three = room_first ((ws ++ xs) ++ ys) zs parts.is room

  two : Room (ws ++ xs) p
  two = room_first (ws ++ xs) ys refl three

  pub four_first : Room ws p
  four_first = room_first ws xs refl two

  module _ {q : Page} (a : Wrote ws p q) where
    pub four_second : Room xs q
    four_second = room_next ws xs refl two a

    module _ {r : Page} (b : Wrote xs q r) where
      pub four_third : Room ys r
      four_third = room_next (ws ++ xs) ys refl three (wrote_both ws xs refl two a b)

      module _ {s : Page} (c : Wrote ys r s) where
        wrote_three : Wrote ((ws ++ xs) ++ ys) p s
        wrote_three = wrote_both (ws ++ xs) ys refl three (wrote_both ws xs refl two a b) c

        pub four_last : Room zs s
        four_last = room_next ((ws ++ xs) ++ ys) zs parts.is room wrote_three

        pub wrote_four : {t : Page} → Wrote zs s t → Wrote text p t
        wrote_four d = wrote_both ((ws ++ xs) ++ ys) zs parts.is room wrote_three d

-- a text for each of a list: one more
module _ {X : Type 0} (f : X → List ℕ) (xs : List X) (i : ℕ) {p q : Page} (room : Room (flat_map f xs) p) (w : Wrote (flat_map f (take i xs)) p q) where
  module _ (d : X) (here : i < length xs) where
    room_step : Room (flat_map f (take (i + 1) xs)) p
    room_step = record { fits = omega (arith, room.fits, joined_front f (i + 1) xs) }

    pub room_turn : Room (f (get_or xs i d)) q
    room_turn = room_next (flat_map f (take i xs)) (f (get_or xs i d)) (sym (joined_step f xs i d here)) room_step w

    pub wrote_turn : {r : Page} → Wrote (f (get_or xs i d)) q r → Wrote (flat_map f (take (i + 1) xs)) p r
    wrote_turn v = wrote_both (flat_map f (take i xs)) (f (get_or xs i d)) (sym (joined_step f xs i d here)) room_step w v

  pub wrote_end : length xs ≤ i → Wrote (flat_map f xs) p q
  wrote_end past = wrote_is (ap (flat_map f) (take_all i xs past)) w
