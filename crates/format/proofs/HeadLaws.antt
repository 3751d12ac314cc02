-- What a head within its limits tells, and a section's rows by the head.
use mathlib.Core.Path.{◌≡◌}
use mathlib.Core.Bool.{true, ◌&&◌}
use Prim.Native.Nat.{◌≤◌}
use borrow.Author.Tests.{leb-true}
use lib.Dec.{leb}
use Rattle.lists.proofs.BoolLaws.{and_left, and_right}
use Rattle.format.specs.declared.head.Head.{Head}
use Rattle.format.specs.Head.{within_limits}

pub record Limits (h : Head) : Type 0 where
  pub countries : h.countries ≤ 2000
  pub provinces : h.provinces ≤ 8000
  pub previous : h.previous ≤ 20000
  pub switches : h.switches ≤ 20000
  pub events : h.events ≤ 60000
  pub strings : h.strings ≤ 1000
  pub wars : h.wars ≤ 5000
  pub war_events : h.war_events ≤ 100000
  pub ledgers : h.ledgers ≤ 2000
  pub points : h.points ≤ 1000000

pub limits_of : (h : Head) → within_limits h ≡ true → Limits h
unfolding within_limits
limits_of h t0 =
    let c = leb h.countries 2000 in
    let p = c && leb h.provinces 8000 in
    let a = p && leb h.previous 20000 in
    let b = a && leb h.switches 20000 in
    let e = b && leb h.events 60000 in
    let n = e && leb h.strings 1000 in
    let w = n && leb h.wars 5000 in
    let v = w && leb h.war_events 100000 in
    let g = v && leb h.ledgers 2000 in
    let tg = and_left g (leb h.points 1000000) t0 in
    let tv = and_left v (leb h.ledgers 2000) tg in
    let tw = and_left w (leb h.war_events 100000) tv in
    let tn = and_left n (leb h.wars 5000) tw in
    let te = and_left e (leb h.strings 1000) tn in
    let tb = and_left b (leb h.events 60000) te in
    let ta = and_left a (leb h.switches 20000) tb in
    let tp = and_left p (leb h.previous 20000) ta in
    record {
      countries = leb-true h.countries 2000 (and_left c (leb h.provinces 8000) tp);
      provinces = leb-true h.provinces 8000 (and_right c (leb h.provinces 8000) tp);
      previous = leb-true h.previous 20000 (and_right p (leb h.previous 20000) ta);
      switches = leb-true h.switches 20000 (and_right a (leb h.switches 20000) tb);
      events = leb-true h.events 60000 (and_right b (leb h.events 60000) te);
      strings = leb-true h.strings 1000 (and_right e (leb h.strings 1000) tn);
      wars = leb-true h.wars 5000 (and_right n (leb h.wars 5000) tw);
      war_events = leb-true h.war_events 100000 (and_right w (leb h.war_events 100000) tv);
      ledgers = leb-true h.ledgers 2000 (and_right v (leb h.ledgers 2000) tg);
      points = leb-true h.points 1000000 (and_right g (leb h.points 1000000) t0);
    }
