use Rattle.std.proofs.Common.{◌≡◌, ◌++◌, drop, length, arith, ap, ◌∙◌}
use Rattle.am_network.specs.Memory.{NetworkInMemory, gates_of, listening_again, new_network}
use Rattle.am_network.proofs.Opening.{rooms_are}
use Rattle.am_network.proofs.memory_network.MemoryNetwork.open.Goals as goal

-- there are as many rooms as gates
pub open_gates-requires-clause-rooms : goal.open_gates-requires-clause-rooms
open_gates-requires-clause-rooms c = (rooms_are c.args.gates c.self.inside.coming.items _ _ c.from_vec.ensures.items
    c.in_ok-rooms.ensures).0

pub open_gates-requires-clause-capacity : goal.open_gates-requires-clause-capacity
open_gates-requires-clause-capacity c =
    let count : length c.from_vec.result.items ≡ c.args.gates = (rooms_are c.args.gates c.self.inside.coming.items _ _
    c.from_vec.ensures.items c.in_ok-rooms.ensures).1 in
    let none = c.in_ok-made.ensures.len in
    let room = c.in_ok-made.ensures.exact in
    omega arith

-- the plans that are left, and no gate that was released
pub returns-clause-exact : goal.returns-clause-exact
returns-clause-exact c =
    let inside = c.self.inside in
    let coming = inside.coming.items in
    let count = (rooms_are c.args.gates coming _ _ c.from_vec.ensures.items c.in_ok-rooms.ensures).1 in
    let rest : c.open_gates.new.coming.items ≡ drop c.args.gates coming = c.open_gates.ensures.rest
    ∙ ap (λ n. drop n coming) count in
    let seen : _ → _ → NetworkInMemory = λ left released. record (new_network left inside.listens.failing) {
      port = c.args.port;
      gates = c.args.gates;
      released = released;
      listens = inside.listens.made;
      faults = inside.listens.faults;
      gate_faults = inside.gate_faults;
    } in
    ap (λ left. seen left c.in_ok-self-inside.field-0.items) rest
    ∙ (ap (seen (drop c.args.gates coming)) c.in_ok-self-inside.ensures.items
    ∙ ap (λ (network : NetworkInMemory). listening_again network c.args.port c.args.gates) c.self.view_is)

pub returns-clause-made : goal.returns-clause-made
returns-clause-made c =
    let coming = c.self.inside.coming.items in
    let count = (rooms_are c.args.gates coming _ _ c.from_vec.ensures.items c.in_ok-rooms.ensures).1 in
    c.open_gates.ensures.made
    ∙ (ap (λ made. made ++ gates_of (length c.from_vec.result.items) coming) c.in_ok-made.ensures.items
    ∙ (ap (λ n. gates_of n coming) count ∙ ap (λ (network : NetworkInMemory). gates_of c.args.gates network.coming)
    c.self.view_is))
