pub mod RewrittenPlaces
