use Rattle.lift_lower.proofs.scalar_lists.fill.Goals as goal

pub fill_each-requires-clause-typed : goal.fill_each-requires-clause-typed
fill_each-requires-clause-typed c = rw c.in-Bool.is at c.requires.typed

pub fill_each-requires-in-S8-clause-typed : goal.fill_each-requires-in-S8-clause-typed
fill_each-requires-in-S8-clause-typed c = rw c.in-S8.is at c.requires.typed

pub fill_each-requires-in-U8-clause-typed : goal.fill_each-requires-in-U8-clause-typed
fill_each-requires-in-U8-clause-typed c = rw c.in-U8.is at c.requires.typed

pub fill_each-requires-in-S16-clause-typed : goal.fill_each-requires-in-S16-clause-typed
fill_each-requires-in-S16-clause-typed c = rw c.in-S16.is at c.requires.typed

pub fill_each-requires-in-U16-clause-typed : goal.fill_each-requires-in-U16-clause-typed
fill_each-requires-in-U16-clause-typed c = rw c.in-U16.is at c.requires.typed

pub fill_each-requires-in-S32-clause-typed : goal.fill_each-requires-in-S32-clause-typed
fill_each-requires-in-S32-clause-typed c = rw c.in-S32.is at c.requires.typed

pub fill_each-requires-in-U32-clause-typed : goal.fill_each-requires-in-U32-clause-typed
fill_each-requires-in-U32-clause-typed c = rw c.in-U32.is at c.requires.typed

pub fill_each-requires-in-S64-clause-typed : goal.fill_each-requires-in-S64-clause-typed
fill_each-requires-in-S64-clause-typed c = rw c.in-S64.is at c.requires.typed

pub fill_each-requires-in-U64-clause-typed : goal.fill_each-requires-in-U64-clause-typed
fill_each-requires-in-U64-clause-typed c = rw c.in-U64.is at c.requires.typed

pub fill_each-requires-in-Char-clause-typed : goal.fill_each-requires-in-Char-clause-typed
fill_each-requires-in-Char-clause-typed c = rw c.in-Char.is at c.requires.typed
