use Rattle.std.proofs.Common.{◌-◌, ◌<◌, ◌∷◌, [], ap, length, length-append, ◌∙◌, arith, rules}
use Rattle.run_pool.proofs.Dealing.{dealt_one, halves, one_less}
use Rattle.run_pool.proofs.path.deal.Goals as goal

pub deals-preserved : goal.deals-preserved
deals-preserved g c =
    let i = c.deals.invariant in
    let k = 16 - c.deals.count in
    let more : 0 < k = omega arith in
    let seat = halves k c.deals.seat.left more i.seat_left in
    let pass = halves k c.deals.pass.left more i.pass_left in
    let own = c.in-Ok.ensures.own in
    let given = c.in-Ok.ensures.given in
    record {
      dealt = dealt_one c.args.job.now c.args.gate.now c.args.results.now c.deals.places.items c.in-Ok.place c.push_reserved.new.self.items c.deals.seat c.split_off.new.seat
          c.deals.pass c.split_off.new.pass i.dealt own.0 own.1 given.0 given.1 seat.1 seat.2 pass.1 pass.2 c.push_reserved.ensures.items;
      count = let n = ap length c.push_reserved.ensures.items ∙ length-append c.deals.places.items (c.in-Ok.place ∷ []) in let m = i.count in omega arith;
      room = let same = c.push_reserved.ensures.capacity in let room = i.room in omega arith;
      seat_left = one_less c.deals.count c.split_off.new.seat.left c.deals.seat.left (search rules) seat.0;
      pass_left = one_less c.deals.count c.split_off.new.pass.left c.deals.pass.left (search rules) pass.0;
    }
