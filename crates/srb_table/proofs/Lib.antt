mod Circular
mod Colons
mod CountedLinks
mod Known
mod KnownMembers
mod MemberPasses
mod Passes
mod Stand
